-- Names that are noted one after another, each once.
use Rattle.std.proofs.Common.{◌≡◌, ◌∙◌, ◌<◌, ◌≤◌, ◌+◌, ◌||◌, ℕ, sym, ap, refl, Bool, true, false, not, cond, List, [], ◌∷◌, ◌++◌, length, drop, filter, append_assoc, append-nil, ap₂, subst, drop-cons, drop_of_length-le, slice_index_or, add-one, Bor}
use Rattle.std.proofs.lemmas.List.{map-append}
use Rattle.std.proofs.lemmas.Cmp.{nat_list_eq_equiv}
use Rattle.std.specs.List.{list_any}
use Rattle.std.specs.Str.{bytes_eq}
use Rattle.indexmap.specs.IndexSet.{insert_key}
use Rattle.ir_summary.specs.Once.{texts}
use Rattle.ir_tree.specs.Once.{once, without}

-- what is left, as its first item and the rest
pub left : {X : Type 0} (xs : List X) (i : ℕ) (d : X) → i < length xs → drop i xs ≡ slice_index_or xs i d ∷ drop (i + 1) xs
left xs i d lt = drop-cons xs i d lt ∙ ap (λ n. slice_index_or xs i d ∷ drop n xs) (sym (add-one i))

-- one more copy
pub text_more : (rows : List (List ℕ)) (names : List (Bor (List ℕ))) (i : ℕ) (d : Bor (List ℕ)) → i < length names → rows ++ texts (drop i names) ≡ texts names
    → (rows ++ (slice_index_or names i d).now ∷ []) ++ texts (drop (i + 1) names) ≡ texts names
text_more rows names i d lt so_far =
    append_assoc rows ((slice_index_or names i d).now ∷ []) (texts (drop (i + 1) names))
    ∙ ap (λ (z : List (Bor (List ℕ))). rows ++ texts z) (sym (left names i d lt)) ∙ so_far

-- ---- names that aren't there yet

abbrev pub is_in : List (List ℕ) → List ℕ → Bool
is_in known name = list_any (bytes_eq name) known

abbrev pub outside : List (List ℕ) → List (List ℕ) → List (List ℕ)
outside known names = filter (λ name. not (is_in known name)) names

pub all_outside : (names : List (List ℕ)) → outside [] names ≡ names
all_outside [] = refl
all_outside (n ∷ ns) = ap (λ (z : List (List ℕ)). n ∷ z) (all_outside ns)

filter_true : {X : Type 0} (p : X → Bool) (x : X) (xs : List X) → p x ≡ true → filter p (x ∷ xs) ≡ x ∷ filter p xs
filter_true p x xs e = ap (λ (b : Bool). cond b (x ∷ filter p xs) (filter p xs)) e

filter_false : {X : Type 0} (p : X → Bool) (x : X) (xs : List X) → p x ≡ false → filter p (x ∷ xs) ≡ filter p xs
filter_false p x xs e = ap (λ (b : Bool). cond b (x ∷ filter p xs) (filter p xs)) e

-- equal names are found alike
same_in : (known : List (List ℕ)) (n x : List ℕ) → bytes_eq n x ≡ true → is_in known n ≡ is_in known x
same_in [] n x e = refl
same_in (k ∷ ks) n x e = ap₂ (λ (a b : Bool). a || b) (nat_list_eq_equiv.congr n x k e) (same_in ks n x e)

-- a name that is there already may be left out
known_without : (known : List (List ℕ)) (n : List ℕ) (names : List (List ℕ)) → is_in known n ≡ true → outside known (without n names) ≡ outside known names
known_without known n [] there = refl
known_without known n (x ∷ xs) there = by (bytes_eq n x) refl (known_without known n xs there)
  where
    by : (b : Bool) → bytes_eq n x ≡ b → outside known (without n xs) ≡ outside known xs → outside known (without n (x ∷ xs)) ≡ outside known (x ∷ xs)
    by true e rest =
        let here : is_in known x ≡ true = sym (same_in known n x e) ∙ there in
        ap (outside known) (filter_false (λ other. not (bytes_eq n other)) x xs (ap not e)) ∙ rest ∙ sym (filter_false (λ name. not (is_in known name)) x xs (ap not here))
    by false e rest =
        ap (outside known) (filter_true (λ other. not (bytes_eq n other)) x xs (ap not e)) ∙ ap (λ (z : List (List ℕ)). cond (not (is_in known x)) (x ∷ z) z) rest

-- with one more name behind those that are known
behind : (known : List (List ℕ)) (n x : List ℕ) → is_in (known ++ n ∷ []) x ≡ (is_in known x || bytes_eq n x)
behind [] n x = or_none (bytes_eq x n) ∙ nat_list_eq_equiv.symm x n
  where
    or_none : (b : Bool) → (b || false) ≡ b
    or_none true = refl
    or_none false = refl
behind (k ∷ ks) n x = ap (λ (b : Bool). bytes_eq x k || b) (behind ks n x) ∙ grouped (bytes_eq x k)
  where
    grouped : (a : Bool) → (a || (is_in ks x || bytes_eq n x)) ≡ ((a || is_in ks x) || bytes_eq n x)
    grouped true = refl
    grouped false = refl

or_true : (b : Bool) → (b || true) ≡ true
or_true true = refl
or_true false = refl

or_false : (b : Bool) → (b || false) ≡ b
or_false true = refl
or_false false = refl

one_known : (known : List (List ℕ)) (n : List ℕ) (names : List (List ℕ)) → outside (known ++ n ∷ []) names ≡ outside known (without n names)
one_known known n [] = refl
one_known known n (x ∷ xs) = by (bytes_eq n x) refl (one_known known n xs)
  where
    by : (b : Bool) → bytes_eq n x ≡ b → outside (known ++ n ∷ []) xs ≡ outside known (without n xs) → outside (known ++ n ∷ []) (x ∷ xs) ≡ outside known (without n (x ∷ xs))
    by true e rest =
        let there : is_in (known ++ n ∷ []) x ≡ true = behind known n x ∙ ap (λ (b : Bool). is_in known x || b) e ∙ or_true (is_in known x) in
        filter_false (λ name. not (is_in (known ++ n ∷ []) name)) x xs (ap not there) ∙ rest
        ∙ sym (ap (outside known) (filter_false (λ other. not (bytes_eq n other)) x xs (ap not e)))
    by false e rest =
        let same : is_in (known ++ n ∷ []) x ≡ is_in known x = behind known n x ∙ ap (λ (b : Bool). is_in known x || b) e ∙ or_false (is_in known x) in
        ap₂ (λ (b : Bool) (z : List (List ℕ)). cond (not b) (x ∷ z) z) same rest
        ∙ sym (ap (outside known) (filter_true (λ other. not (bytes_eq n other)) x xs (ap not e)))

-- ---- names in a set

abbrev alike : Bor (List ℕ) → Bor (List ℕ) → Bool
alike x y = bytes_eq x.now y.now

found : (keys : List (Bor (List ℕ))) (n : Bor (List ℕ)) → list_any (alike n) keys ≡ is_in (texts keys) n.now
found [] n = refl
found (k ∷ ks) n = ap (λ (b : Bool). alike n k || b) (found ks n)

-- what is noted so far, before the names that are left
abbrev Noted : List (Bor (List ℕ)) → List (List ℕ) → List (List ℕ) → Type 0
Noted keys more all = texts keys ++ outside (texts keys) more ≡ all

known_one : (keys : List (Bor (List ℕ))) (n : Bor (List ℕ)) (more all : List (List ℕ)) → Noted keys (n.now ∷ without n.now more) all → is_in (texts keys) n.now ≡ true → Noted keys more all
known_one keys n more all so_far there =
    ap (λ (z : List (List ℕ)). texts keys ++ z) (sym (known_without (texts keys) n.now more there)
    ∙ sym (filter_false (λ name. not (is_in (texts keys) name)) n.now (without n.now more) (ap not there))) ∙ so_far

new_one : (keys : List (Bor (List ℕ))) (n : Bor (List ℕ)) (more all : List (List ℕ)) → Noted keys (n.now ∷ without n.now more) all → is_in (texts keys) n.now ≡ false → Noted (keys ++ n ∷ []) more all
new_one keys n more all so_far free =
    ap (λ (z : List (List ℕ)). z ++ outside z more) (map-append (λ (s : Bor (List ℕ)). s.now) keys (n ∷ []))
    ∙ append_assoc (texts keys) (n.now ∷ []) (outside (texts keys ++ n.now ∷ []) more)
    ∙ ap (λ (z : List (List ℕ)). texts keys ++ z) (ap (λ (z : List (List ℕ)). n.now ∷ z) (one_known (texts keys) n.now more)
    ∙ sym (filter_true (λ name. not (is_in (texts keys) name)) n.now (without n.now more) (ap not free))) ∙ so_far

one_noted : (keys : List (Bor (List ℕ))) (n : Bor (List ℕ)) (more all : List (List ℕ)) (b : Bool) → list_any (alike n) keys ≡ b → Noted keys (n.now ∷ without n.now more) all → Noted (insert_key alike keys n) more all
one_noted keys n more all true e so_far =
    subst (λ (ks : List (Bor (List ℕ))). Noted ks more all) (sym (ap (λ (b : Bool). cond b keys (keys ++ n ∷ [])) e)) (known_one keys n more all so_far (sym (found keys n) ∙ e))
one_noted keys n more all false e so_far =
    subst (λ (ks : List (Bor (List ℕ))). Noted ks more all) (sym (ap (λ (b : Bool). cond b keys (keys ++ n ∷ [])) e)) (new_one keys n more all so_far (sym (found keys n) ∙ e))

-- one more name, of which the set keeps the first alone
pub name_more : (keys names : List (Bor (List ℕ))) (i : ℕ) (d : Bor (List ℕ)) → i < length names
    → texts keys ++ outside (texts keys) (once (texts (drop i names))) ≡ once (texts names)
    → texts (insert_key alike keys (slice_index_or names i d)) ++ outside (texts (insert_key alike keys (slice_index_or names i d))) (once (texts (drop (i + 1) names))) ≡ once (texts names)
name_more keys names i d lt so_far =
    one_noted keys (slice_index_or names i d) (once (texts (drop (i + 1) names))) (once (texts names)) (list_any (alike (slice_index_or names i d)) keys) refl
    (ap (λ (z : List (Bor (List ℕ))). texts keys ++ outside (texts keys) (once (texts z))) (sym (left names i d lt)) ∙ so_far)

pub names_done : (keys names : List (Bor (List ℕ))) (i : ℕ) → length names ≤ i
    → texts keys ++ outside (texts keys) (once (texts (drop i names))) ≡ once (texts names) → texts keys ≡ once (texts names)
names_done keys names i past so_far =
    sym (append-nil (texts keys)) ∙ sym (ap (λ (z : List (Bor (List ℕ))). texts keys ++ outside (texts keys) (once (texts z))) (drop_of_length-le names past)) ∙ so_far
