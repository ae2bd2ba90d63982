-- Lists of which each item stands for the item of another list at its place.
use Rattle.std.proofs.Common.{◌≡◌, ℕ, zero, suc, ◌+◌, ◌<◌, ◌≤◌, List, [], ◌∷◌, ◌++◌, take, length, get_or, slice_get, Some, refl, sym, subst, arith}
use Rattle.std.specs.Prelude.{All}
use Rattle.std.specs.List.{AllZip}

zip_at : {A B : Type 0} (R : A → B → Type 0) (xs : List A) (ys : List B) (i : ℕ) (d x : A) (y : B) → i < length xs → x ≡ get_or xs i d → AllZip R (take i xs) ys → R x y →
    AllZip R (take (suc i) xs) (ys ++ y ∷ [])
zip_at R [] ys i d x y l e h r = absurd (omega (arith, l))
zip_at {A} {B} R (a ∷ xs) [] zero d x y l e h r = subst (λ (z : A). AllZip R (take (suc zero) (z ∷ xs)) (y ∷ [])) e (r, none xs) where
  none : (zs : List A) → AllZip R (take zero zs) []
  none [] = tt
  none (z ∷ zs) = tt
zip_at R (a ∷ xs) (b ∷ ys) zero d x y l e h r = absurd h
zip_at R (a ∷ xs) [] (suc i) d x y l e h r = absurd h
zip_at R (a ∷ xs) (b ∷ ys) (suc i) d x y l e h r = (h.0, zip_at R xs ys i d x y (omega (arith, l)) e h.1 r)

-- one more pair
pub zip_more : {A B : Type 0} (R : A → B → Type 0) (xs : List A) (ys : List B) (i : ℕ) (x : A) (y : B) → i < length xs → x ≡ get_or xs i x → AllZip R (take i xs) ys → R x y →
    AllZip R (take (i + 1) xs) (ys ++ y ∷ [])
zip_more R xs ys i x y l e h r =
    let one : suc i ≡ i + 1 = omega arith in
    subst (λ (j : ℕ). AllZip R (take j xs) (ys ++ y ∷ [])) one (zip_at R xs ys i x x y l e h r)

pub zip_none : {A B : Type 0} (R : A → B → Type 0) (xs : List A) → AllZip R (take zero xs) []
zip_none R [] = tt
zip_none R (x ∷ xs) = tt

-- all pairs
pub zip_whole : {A B : Type 0} (R : A → B → Type 0) (xs : List A) (ys : List B) (i : ℕ) → length xs ≤ i → AllZip R (take i xs) ys → AllZip R xs ys
zip_whole R [] [] i l h = tt
zip_whole R [] (y ∷ ys) zero l h = h
zip_whole R [] (y ∷ ys) (suc i) l h = h
zip_whole R (x ∷ xs) ys zero l h = absurd (omega (arith, l))
zip_whole R (x ∷ xs) [] (suc i) l h = h
zip_whole R (x ∷ xs) (y ∷ ys) (suc i) l h = (h.0, zip_whole R xs ys i (omega (arith, l)) h.1)

pub zip_start : {A B : Type 0} (R : A → B → Type 0) (xs : List A) (ys : List B) → ys ≡ [] → AllZip R (take zero xs) ys
zip_start {A} {B} R xs ys e = subst (λ (zs : List B). AllZip R (take zero xs) zs) (sym e) (zip_none R xs)

pub zip_pushed : {A B : Type 0} (R : A → B → Type 0) (xs : List A) (ys zs : List B) (i : ℕ) (x : A) (y : B) → i < length xs → x ≡ get_or xs i x → AllZip R (take i xs) ys → R x y →
    zs ≡ ys ++ y ∷ [] → AllZip R (take (i + 1) xs) zs
zip_pushed {A} {B} R xs ys zs i x y l e h r f = subst (λ (ws : List B). AllZip R (take (i + 1) xs) ws) (sym f) (zip_more R xs ys i x y l e h r)

-- what holds of all holds of the one that is read
pub all_at : {A : Type 0} (P : A → Type 0) (xs : List A) (i : ℕ) (x : A) → i < length xs → x ≡ get_or xs i x → All P xs → P x
all_at {A} P xs i x l e h = subst (λ (y : A). P y) (sym e) (h i x l)

pub zip_long : {A B : Type 0} (R : A → B → Type 0) (xs : List A) (ys : List B) → AllZip R xs ys → length ys ≡ length xs
zip_long R [] [] h = refl
zip_long R [] (y ∷ ys) h = absurd h
zip_long R (x ∷ xs) [] h = absurd h
zip_long R (x ∷ xs) (y ∷ ys) h = omega (arith, zip_long R xs ys h.1)

-- the items at one place
pub zip_got : {A B : Type 0} (R : A → B → Type 0) (xs : List A) (ys : List B) (k : ℕ) (x : A) (y : B) → AllZip R xs ys → slice_get xs k ≡ Some x → slice_get ys k ≡ Some y → R x y
zip_got R [] ys k x y h e f = absurd (cc e)
zip_got R (a ∷ xs) [] k x y h e f = absurd h
zip_got {A} {B} R (a ∷ xs) (b ∷ ys) zero x y h e f =
    let one : a ≡ x = cc e in
    let other : b ≡ y = cc f in
    subst (λ (z : A). R z y) one (subst (λ (z : B). R a z) other h.0)
zip_got R (a ∷ xs) (b ∷ ys) (suc k) x y h e f = zip_got R xs ys k x y h.1 e f

pub zip_read : {A B : Type 0} (R : A → B → Type 0) (xs : List A) (ys zs : List B) (i : ℕ) (d : A) (y : B) → i < length xs → AllZip R (take i xs) ys → R (get_or xs i d) y →
    zs ≡ ys ++ y ∷ [] → AllZip R (take (i + 1) xs) zs
zip_read {A} {B} R xs ys zs i d y l h r f =
    let one : suc i ≡ i + 1 = omega arith in
    subst (λ (ws : List B). AllZip R (take (i + 1) xs) ws) (sym f)
    (subst (λ (j : ℕ). AllZip R (take j xs) (ys ++ y ∷ [])) one (zip_at R xs ys i d (get_or xs i d) y l refl h r))

-- an item at a place stands for one there
pub zip_other : {A B : Type 0} (R : A → B → Type 0) (xs : List A) (ys : List B) (k : ℕ) (y : B) → AllZip R xs ys → slice_get ys k ≡ Some y → (x : A) × ((slice_get xs k ≡ Some x) × R x y)
zip_other R [] [] k y h f = absurd (cc f)
zip_other R [] (b ∷ ys) k y h f = absurd h
zip_other R (a ∷ xs) [] k y h f = absurd (cc f)
zip_other {A} {B} R (a ∷ xs) (b ∷ ys) zero y h f = let other : b ≡ y = cc f in (a, (refl, subst (λ (z : B). R a z) other h.0))
zip_other R (a ∷ xs) (b ∷ ys) (suc k) y h f = zip_other R xs ys k y h.1 f

-- for an item at a place one stands there
pub zip_beside : {A B : Type 0} (R : A → B → Type 0) (xs : List A) (ys : List B) (k : ℕ) (x : A) → AllZip R xs ys → slice_get xs k ≡ Some x → (y : B) × ((slice_get ys k ≡ Some y) × R x y)
zip_beside R [] ys k x h e = absurd (cc e)
zip_beside R (a ∷ xs) [] k x h e = absurd h
zip_beside {A} {B} R (a ∷ xs) (b ∷ ys) zero x h e = let same : a ≡ x = cc e in (b, (refl, subst (λ (z : A). R z b) same h.0))
zip_beside R (a ∷ xs) (b ∷ ys) (suc k) x h e = zip_beside R xs ys k x h.1 e
