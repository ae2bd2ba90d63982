-- Lists that what is said of them determines.
use Rattle.std.proofs.Common.{◌≡◌, ◌∙◌, ◌⊎◌, inl, inr, ℕ, zero, suc, ◌+◌, ◌<◌, ◌≤◌, Bool, true, false, ◌&&◌, List, [], ◌∷◌, map, length, IsTrue, refl, arith, get_or}
use Rattle.std.proofs.lemmas.List.Elements.{All-head, All-tail, All-contains}
use Rattle.std.proofs.lemmas.List.Kept.{AllPairs-from_increasing}
use Rattle.std.specs.List.{All, AllPairs, Contains}
use Rattle.std.specs.List.Sorted.{IsStrictlyIncreasing}

-- ---- lists of one image

-- where no two of them have one image, lists with one image are one
pub same_from_map : {X Y : Type 0} (f : X → Y) (P : X → Type 0) → ((x y : X) → P x → P y → f x ≡ f y → x ≡ y) → (xs ys : List X) → All P xs → All P ys → map f xs ≡ map f ys → xs ≡ ys
same_from_map f P one [] [] all also h = refl
same_from_map f P one [] (y ∷ ys) all also h = cc
same_from_map f P one (x ∷ xs) [] all also h = cc
same_from_map f P one (x ∷ xs) (y ∷ ys) all also h =
    let image : f x ≡ f y = cc in
    let images : map f xs ≡ map f ys = cc in
    let head : x ≡ y = one x y (All-head P x xs all) (All-head P y ys also) image in
    let tail : xs ≡ ys = same_from_map f P one xs ys (All-tail P x xs all) (All-tail P y ys also) images in
    cc

-- ---- marks

same_mark : (a b : Bool) → (IsTrue a → IsTrue b) → (IsTrue b → IsTrue a) → a ≡ b
same_mark true true to back = refl
same_mark true false to back = let no : false ≡ true = to refl in cc
same_mark false true to back = let no : false ≡ true = back refl in cc
same_mark false false to back = refl

pub same_marks : (xs ys : List Bool) → length xs ≡ length ys → ((n : ℕ) → IsTrue (get_or xs n false) → IsTrue (get_or ys n false)) → ((n : ℕ) → IsTrue (get_or ys n false) → IsTrue (get_or xs n false)) → xs ≡ ys
same_marks [] [] h to back = refl
same_marks [] (y ∷ ys) h to back = absurd (omega (arith, h))
same_marks (x ∷ xs) [] h to back = absurd (omega (arith, h))
same_marks (x ∷ xs) (y ∷ ys) h to back =
    let head : x ≡ y = same_mark x y (to 0) (back 0) in
    let tail : xs ≡ ys = same_marks xs ys (omega (arith, h)) (λ n. to (suc n)) (λ n. back (suc n)) in
    cc

-- ---- rising numbers

-- an element is the first, or one of the others
first_or : {X : Type 0} (x : X) (xs : List X) (y : X) → Contains (x ∷ xs) y → (x ≡ y) ⊎ Contains xs y
first_or x xs y (zero, below, is) = inl is
first_or x xs y (suc k, below, is) = inr (k, omega (arith, below), is)

in_front : {X : Type 0} (x : X) (xs : List X) → Contains (x ∷ xs) x
in_front x xs = (0, omega arith, refl)

behind : {X : Type 0} (x : X) (xs : List X) (y : X) → Contains xs y → Contains (x ∷ xs) y
behind x xs y (k, below, is) = (suc k, omega (arith, below), is)

-- the first is below the others
first_least : (x : ℕ) (xs : List ℕ) → AllPairs (λ a b. a < b) (x ∷ xs) → All (λ y. x < y) xs
first_least x xs up k d h = up 0 (suc k) d (omega arith) (omega (arith, h))

others_rise : (x : ℕ) (xs : List ℕ) → AllPairs (λ a b. a < b) (x ∷ xs) → AllPairs (λ a b. a < b) xs
others_rise x xs up i j d h below = up (suc i) (suc j) d (omega (arith, h)) (omega (arith, below))

same_rising_by : (xs ys : List ℕ) → AllPairs (λ a b. a < b) xs → AllPairs (λ a b. a < b) ys → ((n : ℕ) → Contains xs n → Contains ys n) → ((n : ℕ) → Contains ys n → Contains xs n) → xs ≡ ys
same_rising_by [] [] up rise to back = refl
same_rising_by [] (y ∷ ys) up rise to back = let none = back y (in_front y ys) in absurd (omega (arith, none.1))
same_rising_by (x ∷ xs) [] up rise to back = let none = to x (in_front x xs) in absurd (omega (arith, none.1))
same_rising_by (x ∷ xs) (y ∷ ys) up rise to back =
    let above : All (λ n. x < n) xs = first_least x xs up in
    let over : All (λ n. y < n) ys = first_least y ys rise in
    let low : y ≤ x = elim (first_or y ys x (to x (in_front x xs))) [ inl e ↦ omega (arith, e) | inr there ↦ let less = All-contains (λ n. y < n) ys x over there in omega (arith, less) ] in
    let high : x ≤ y = elim (first_or x xs y (back y (in_front y ys))) [ inl e ↦ omega (arith, e) | inr there ↦ let less = All-contains (λ n. x < n) xs y above there in omega (arith, less) ] in
    let head : x ≡ y = omega (arith, low, high) in
    let tail : xs ≡ ys = same_rising_by xs ys (others_rise x xs up) (others_rise y ys rise)
    (λ n there. elim (first_or y ys n (to n (behind x xs n there))) [ inl e ↦ (let less = All-contains (λ n. x < n) xs n above there in absurd (omega (arith, e, less, head))) | inr here ↦ here ])
    (λ n there. elim (first_or x xs n (back n (behind y ys n there))) [ inl e ↦ (let less = All-contains (λ n. y < n) ys n over there in absurd (omega (arith, e, less, head))) | inr here ↦ here ]) in
    cc

pub same_rising : (xs ys : List ℕ) → IsStrictlyIncreasing xs → IsStrictlyIncreasing ys → ((n : ℕ) → Contains xs n → Contains ys n) → ((n : ℕ) → Contains ys n → Contains xs n) → xs ≡ ys
same_rising xs ys up rise to back = same_rising_by xs ys (AllPairs-from_increasing xs up) (AllPairs-from_increasing ys rise) to back
