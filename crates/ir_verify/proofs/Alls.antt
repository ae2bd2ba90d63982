-- What holds of each element of a list, found element by element.
use Rattle.std.proofs.Common.{◌≡◌, ℕ, zero, suc, ◌<◌, ◌≤◌, ◌+◌, List, [], ◌∷◌, length, get_or, take, refl, sym, ap, subst, arith}
use Rattle.std.specs.Prelude.{Some, slice_get, All, map}
use Rattle.std.proofs.lemmas.List.Elements.{All-more}
use Rattle.ir_verify.proofs.Keys.{got_at, got_is, got_below}

take_whole : {X : Type 0} (xs : List X) (i : ℕ) → length xs ≤ i → take i xs ≡ xs
take_whole [] zero l = refl
take_whole [] (suc i) l = refl
take_whole (x ∷ xs) zero l = absurd (omega arith)
take_whole (x ∷ xs) (suc i) l = ap (λ ys. x ∷ ys) (take_whole xs i (omega arith))

pub all_none : {X : Type 0} (P : X → Type 0) (xs : List X) → All P (take 0 xs)
all_none P [] k d l = absurd (omega arith)
all_none P (x ∷ xs) k d l = absurd (omega arith)

pub all_got : {X : Type 0} (P : X → Type 0) (xs : List X) (i : ℕ) (x : X) → slice_get xs i ≡ Some x → All P (take i xs) → P x → All P (take (i + 1) xs)
all_got P xs i x g h p = All-more P xs i x (got_below xs i x g) h (subst P (sym (got_is xs i x x g)) p)

pub all_read : {X : Type 0} (P : X → Type 0) (xs : List X) (i : ℕ) (x : X) → i < length xs → x ≡ get_or xs i x → All P (take i xs) → P x → All P (take (i + 1) xs)
all_read P xs i x l is h p = All-more P xs i x l h (subst P is p)

pub all_whole : {X : Type 0} (P : X → Type 0) (xs : List X) (i : ℕ) → length xs ≤ i → All P (take i xs) → All P xs
all_whole P xs i l h = subst (λ ys. All P ys) (take_whole xs i l) h

pub all_fails_got : {X : Type 0} (P : X → Type 0) (xs : List X) (i : ℕ) (x : X) → slice_get xs i ≡ Some x → (P x → ⊥) → All P xs → ⊥
all_fails_got P xs i x g never h = never (subst P (got_is xs i x x g) (h i x (got_below xs i x g)))

pub all_fails_read : {X : Type 0} (P : X → Type 0) (xs : List X) (i : ℕ) (x : X) → i < length xs → x ≡ get_or xs i x → (P x → ⊥) → All P xs → ⊥
all_fails_read P xs i x l is never h = never (subst P (sym is) (h i x l))

pub all_unmap : {X Y : Type 0} (P : Y → Type 0) (f : X → Y) (xs : List X) → All P (map f xs) → All (λ x. P (f x)) xs
all_unmap P f [] h k d l = absurd (omega arith)
all_unmap P f (x ∷ xs) h zero d l = h 0 (f x) (omega arith)
all_unmap P f (x ∷ xs) h (suc k) d l = all_unmap P f xs (λ j e m. h (suc j) e (omega arith)) k d (omega arith)

pub got_all : {X : Type 0} (P : X → Type 0) (xs : List X) (i : ℕ) (x : X) → slice_get xs i ≡ Some x → All P xs → P x
got_all P xs i x g h = subst P (got_is xs i x x g) (h i x (got_below xs i x g))

pub read_all : {X : Type 0} (P : X → Type 0) (xs : List X) (i : ℕ) (x : X) → i < length xs → x ≡ get_or xs i x → All P xs → P x
read_all P xs i x l is h = subst P (sym is) (h i x l)

pub all_from_got : {X : Type 0} (P : X → Type 0) (xs : List X) → ((i : ℕ) (x : X) → slice_get xs i ≡ Some x → P x) → All P xs
all_from_got P xs h i d l = h i (get_or xs i d) (got_at xs i d l)
