-- One step of a loop over a list, and its end.
use Rattle.std.proofs.Common.{◌≡◌, ℕ, ◌+◌, ◌<◌, ◌≤◌, cond, Bool, true, false, ◌||◌, List, [], ◌∷◌, ◌++◌, length, get_or, drop, append-nil, refl, sym, ◌∙◌, ap}
use Rattle.std.proofs.lemmas.List.{at_drop_all, drop_more}

pub cut_at : {X : Type 0} (xs : List X) (i : ℕ) (x : X) → i < length xs → x ≡ get_or xs i x → drop i xs ≡ x ∷ drop (i + 1) xs
cut_at xs i x lt is = drop_more xs i x lt ∙ ap (λ y. y ∷ drop (i + 1) xs) (sym is)

pub walked : {X Y : Type 0} (F : List X → List Y) (xs : List X) (i : ℕ) (old : List Y) → F [] ≡ [] → length xs ≤ i → old ≡ old ++ F (drop i xs)
walked F xs i old none le = sym (append-nil old) ∙ ap (λ ys. old ++ ys) (sym (at_drop_all F xs i le ∙ none))

-- ---- whether one of a list is found

pub passed : {X : Type 0} (any : List X → Bool) (xs : List X) (i : ℕ) (x : X) (found : Bool) → i < length xs → x ≡ get_or xs i x → any (x ∷ drop (i + 1) xs) ≡ (found || any (drop (i + 1) xs)) → found ≡ false
    → any (drop (i + 1) xs) ≡ any (drop i xs)
passed any xs i x found lt is parts none = sym (ap any (cut_at xs i x lt is) ∙ parts ∙ ap (λ b. b || any (drop (i + 1) xs)) none)

pub met : {X : Type 0} (any : List X → Bool) (xs : List X) (i : ℕ) (x : X) (found : Bool) → i < length xs → x ≡ get_or xs i x → any (x ∷ drop (i + 1) xs) ≡ (found || any (drop (i + 1) xs)) → found ≡ true
    → true ≡ any (drop i xs)
met any xs i x found lt is parts here = sym (ap any (cut_at xs i x lt is) ∙ parts ∙ ap (λ b. b || any (drop (i + 1) xs)) here)

-- ---- a set with one more

put_among : (same old rest : Bool) → (cond same true old || rest) ≡ (old || (same || rest))
put_among true true rest = refl
put_among true false rest = refl
put_among false true rest = refl
put_among false false rest = refl

or_false : (b : Bool) → (b || false) ≡ b
or_false true = refl
or_false false = refl

pub none_more : {X : Type 0} (any : List X → Bool) (xs : List X) (i : ℕ) (old : Bool) → any [] ≡ false → length xs ≤ i → old ≡ (old || any (drop i xs))
none_more any xs i old none le = sym (ap (λ b. old || b) (at_drop_all any xs i le ∙ none) ∙ or_false old)

pub put_in : {X : Type 0} (any : List X → Bool) (xs : List X) (i : ℕ) (x : X) (same old new : Bool) → i < length xs → x ≡ get_or xs i x → any (x ∷ drop (i + 1) xs) ≡ (same || any (drop (i + 1) xs))
    → new ≡ cond same true old → (new || any (drop (i + 1) xs)) ≡ (old || any (drop i xs))
put_in any xs i x same old new lt is parts put =
    ap (λ b. b || any (drop (i + 1) xs)) put ∙ put_among same old (any (drop (i + 1) xs)) ∙ ap (λ b. old || b) (sym (ap any (cut_at xs i x lt is) ∙ parts))
