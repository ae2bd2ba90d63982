-- Lists of changed elements, and what is read of them.
use Rattle.std.proofs.Common.{◌≡◌, ◌+◌, ◌||◌, ◌⊎◌, inl, inr, Bool, true, false, cond, List, [], ◌∷◌, ◌++◌, Option, Some, None, map, option_map, get_or, refl, sym, ◌∙◌, ap, subst, arith, length-append}
use Rattle.std.specs.Prelude.{All, flat_map, filter_map}
use Rattle.std.specs.List.{cons_option, count_by}
use Rattle.std.proofs.lemmas.List.Sums.{sum_by-cons}
use Rattle.std.proofs.lemmas.List.{map-append, get_or_append_left, get_or-map, length-map}

module _ {A B C D : Type 0} (h : A → B) (m : A → C) (k : C → D) where
  pub map_square : (g : B → D) → ((x : A) → g (h x) ≡ k (m x)) → (xs : List A) → map g (map h xs) ≡ map k (map m xs)
  map_square g e [] = refl
  map_square g e (x ∷ xs) = λ i. e x i ∷ map_square g e xs i

cons_square : {C D : Type 0} (k : C → D) (o : Option C) (xs : List C) (ys : List D) → ys ≡ map k xs → cons_option (option_map k o) ys ≡ map k (cons_option o xs)
cons_square k None xs ys e = e
cons_square k (Some x) xs ys e = ap (λ l. k x ∷ l) e

pub filter_square : {A B C D : Type 0} (h : A → B) (m : A → Option C) (k : C → D) (g : B → Option D) → ((x : A) → g (h x) ≡ option_map k (m x))
    → (xs : List A) → filter_map g (map h xs) ≡ map k (filter_map m xs)
filter_square h m k g e [] = refl
filter_square h m k g e (x ∷ xs) = ap (λ o. cons_option o (filter_map g (map h xs))) (e x) ∙ cons_square k (m x) (filter_map m xs) (filter_map g (map h xs)) (filter_square h m k g e xs)

pub flat_square : {A B C D : Type 0} (h : A → B) (m : A → List C) (k : C → D) (g : B → List D) → ((x : A) → g (h x) ≡ map k (m x))
    → (xs : List A) → flat_map g (map h xs) ≡ map k (flat_map m xs)
flat_square h m k g e [] = refl
flat_square h m k g e (x ∷ xs) = (λ i. e x i ++ flat_square h m k g e xs i) ∙ sym (map-append k (m x) (flat_map m xs))

-- ---- of each element

pub all_then : {X : Type 0} (P Q : X → Type 0) (xs : List X) → ((x : X) → P x → Q x) → All P xs → All Q xs
all_then P Q xs f h = λ k d lt. f (get_or xs k d) (h k d lt)

pub all_with : {X : Type 0} (P Q R : X → Type 0) (xs : List X) → ((x : X) → P x → Q x → R x) → All P xs → All Q xs → All R xs
all_with P Q R xs f h g = λ k d lt. f (get_or xs k d) (h k d lt) (g k d lt)

pub all_front : {X : Type 0} (P : X → Type 0) (xs ys : List X) → All P (xs ++ ys) → All P xs
all_front P xs ys h = λ k d lt. subst P (get_or_append_left xs ys d k lt) (h k d (omega (arith, lt, length-append xs ys)))

pub all_unmapped : {X Y : Type 0} (P : Y → Type 0) (f : X → Y) (xs : List X) → All P (map f xs) → All (λ x. P (f x)) xs
all_unmapped P f xs h = λ k d lt. subst P (get_or-map f xs k d (f d) lt) (h k (f d) (omega (arith, lt, length-map xs f)))

pub all_along : {X : Type 0} (P : X → Type 0) (xs ys : List X) → xs ≡ ys → All P xs → All P ys
all_along P xs ys e h = subst (All P) e h

-- ---- tests

pub counted : {A : Type 0} (p q : A → Bool) → ((x : A) → p x ≡ q x) → (xs : List A) → count_by p xs ≡ count_by q xs
counted p q e xs = λ i. count_by (λ x. e x i) xs

pub count_square : {A B : Type 0} (f : A → B) (p : B → Bool) (xs : List A) → count_by p (map f xs) ≡ count_by (λ x. p (f x)) xs
count_square f p [] = refl
count_square f p (x ∷ xs) =
    sum_by-cons (λ y. cond (p y) 1 0) (f x) (map f xs) ∙ ap (λ n. cond (p (f x)) 1 0 + n) (count_square f p xs) ∙ sym (sum_by-cons (λ z. cond (p (f z)) 1 0) x xs)

pub or_cases : (a b : Bool) → (a || b) ≡ true → (a ≡ true) ⊎ (b ≡ true)
or_cases true b h = inl refl
or_cases false b h = inr h

pub or_left : (a b : Bool) → a ≡ true → (a || b) ≡ true
or_left true b h = refl
or_left false b h = absurd cc

pub or_right : (a b : Bool) → b ≡ true → (a || b) ≡ true
or_right true b h = refl
or_right false b h = h

pub same_test : (b c : Bool) → (b ≡ true → c ≡ true) → (c ≡ true → b ≡ true) → b ≡ c
same_test true c h g = sym (h refl)
same_test false true h g = g refl
same_test false false h g = refl
