-- Lists, item by item.
use Rattle.std.proofs.Common.{◌≡◌, ◌∙◌, ◌<◌, ◌≤◌, ◌+◌, ℕ, zero, suc, Bool, true, false, ◌||◌, List, [], ◌∷◌, ◌++◌, length, drop, get_or, slice_get, map, Option, Some, None, IfSome, MatchOption, HoldsAt, refl, ap, sym, subst, append_assoc, arith, drop-cons}
use Rattle.std.proofs.lemmas.List.{append-nil}
use Rattle.std.proofs.lemmas.Option.{slice_get_within}
use Rattle.std.specs.Borrow.{Bor}
use Rattle.std.specs.List.{list_any}
use Rattle.machine_code.proofs.Lists.{read_got}

pub none_dropped : {A : Type 0} (xs : List A) → drop 0 xs ≡ xs
none_dropped [] = refl
none_dropped (x ∷ xs) = refl

pub all_dropped : {A : Type 0} (xs : List A) (i : ℕ) → length xs ≤ i → drop i xs ≡ []
all_dropped [] zero past = refl
all_dropped [] (suc i) past = refl
all_dropped (x ∷ xs) zero past = absurd (omega (arith, past))
all_dropped (x ∷ xs) (suc i) past = all_dropped xs i (omega (arith, past))

-- what is there is read
read_there : {A : Type 0} (xs : List A) (i : ℕ) (x : A) → slice_get xs i ≡ Some x → get_or xs i x ≡ x
read_there [] i x e = absurd (cc e)
read_there (y ∷ xs) zero x e = let same : y ≡ x = cc e in same
read_there (y ∷ xs) (suc i) x e = read_there xs i x e

-- an item, and those behind it
pub dropped_there : {A : Type 0} (xs : List A) (i : ℕ) (x : A) → slice_get xs i ≡ Some x → drop i xs ≡ x ∷ drop (suc i) xs
dropped_there {A} xs i x e = drop-cons xs i x (slice_get_within xs i x e) ∙ ap (λ (z : A). z ∷ drop (suc i) xs) (read_there xs i x e)

-- what a look into a list gives
pub item_there : {A : Type 0} (xs : List A) (i : ℕ) (r : Option (Bor A)) (x : Bor A) → r ≡ Some x → IfSome r (λ y. y.now ≡ get_or xs i y.now)
    → MatchOption r (length xs ≤ i) (λ y. (i < length xs) × HoldsAt (λ z. y.now ≡ z) xs i) → slice_get xs i ≡ Some x.now
item_there xs i None x e f m = absurd (cc e)
item_there {A} xs i (Some y) x e f m = let same : y ≡ x = cc e in read_got xs i x.now m.0 (subst (λ (b : Bor A). b.now ≡ get_or xs i b.now) same f)

-- the front of a list is made, and the rest isn't yet
pub made_more : {A B : Type 0} (f : A → B) (xs : List A) (i : ℕ) (x : A) (ys zs : List B) (y : B) → i < length xs → x ≡ get_or xs i x → ys ++ map f (drop i xs) ≡ map f xs → y ≡ f x → zs ≡ ys ++ y ∷ []
    → zs ++ map f (drop (i + 1) xs) ≡ map f xs
made_more {A} {B} f xs i x ys zs y lt is rest made pushed =
    let one : suc i ≡ i + 1 = omega arith in
    let step : drop i xs ≡ x ∷ drop (suc i) xs = drop-cons xs i x lt ∙ ap (λ (z : A). z ∷ drop (suc i) xs) (sym is) in
    ap (λ (j : ℕ). zs ++ map f (drop j xs)) (sym one)
    ∙ ap (λ (ws : List B). ws ++ map f (drop (suc i) xs)) pushed
    ∙ append_assoc ys (y ∷ []) (map f (drop (suc i) xs))
    ∙ ap (λ (z : B). ys ++ (z ∷ map f (drop (suc i) xs))) made
    ∙ ap (λ (ws : List A). ys ++ map f ws) (sym step)
    ∙ rest

pub made_all : {A B : Type 0} (f : A → B) (xs : List A) (i : ℕ) (ys : List B) → length xs ≤ i → ys ++ map f (drop i xs) ≡ map f xs → ys ≡ map f xs
made_all {A} f xs i ys past all = sym (append-nil ys) ∙ ap (λ (ws : List A). ys ++ map f ws) (sym (all_dropped xs i past)) ∙ all

pub none_any : {A : Type 0} (test : A → Bool) (x : A) (xs : List A) → list_any test (x ∷ xs) ≡ false → (test x ≡ false) × (list_any test xs ≡ false)
none_any test x xs e = by (test x) (list_any test xs) e
  where
    by : (a b : Bool) → (a || b) ≡ false → (a ≡ false) × (b ≡ false)
    by true b f = absurd (cc f)
    by false b f = (refl, f)
