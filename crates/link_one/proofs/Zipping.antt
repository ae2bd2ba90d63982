-- A relation that holds of two lists, place by place, and of one more of each.
use Rattle.std.proofs.Common.{◌≡◌, ◌<◌, ◌+◌, ℕ, List, [], ◌∷◌, ◌++◌, length, map, take, subst, sym}
use Rattle.std.specs.List.{AllZip}
use Rattle.std.specs.Prelude.{slice_index_or}
use Rattle.std.proofs.lemmas.Grind.{take_at_read}
use Rattle.std.proofs.lemmas.List.{map-append}

pub zip_more : {A B : Type 0} (R : A → B → Type 0) (xs : List A) (ys : List B) (x : A) (y : B) → AllZip R xs ys → R x y → AllZip R (xs ++ x ∷ []) (ys ++ y ∷ [])
zip_more R [] [] x y all one = (one, tt)
zip_more R [] (b ∷ ys) x y all one = absurd all
zip_more R (a ∷ xs) [] x y all one = absurd all
zip_more R (a ∷ xs) (b ∷ ys) x y all one = (all.0, zip_more R xs ys x y all.1 one)

-- of the next items of both
pub zip_next : {A B : Type 0} (R : A → B → Type 0) (xs : List A) (i : ℕ) (x : A) → i < length xs → x ≡ slice_index_or xs i x → (ys after : List B) (y : B)
    → AllZip R (take i xs) ys → R x y → after ≡ ys ++ y ∷ [] → AllZip R (take (i + 1) xs) after
zip_next {A} {B} R xs i x lt is ys after y all one pushed =
    subst (λ (zs : List B). AllZip R (take (i + 1) xs) zs) (sym pushed)
    (subst (λ (zs : List A). AllZip R zs (ys ++ y ∷ [])) (sym (take_at_read xs i x lt).1)
    (zip_more R (take i xs) ys (slice_index_or xs i x) y all (subst (λ (z : A). R z y) is one)))

-- and of what is mapped
pub zip_next_mapped : {X A B : Type 0} (R : A → B → Type 0) (f : X → A) (xs : List X) (i : ℕ) (x : X) → i < length xs → x ≡ slice_index_or xs i x → (ys after : List B) (y : B)
    → AllZip R (map f (take i xs)) ys → R (f x) y → after ≡ ys ++ y ∷ [] → AllZip R (map f (take (i + 1) xs)) after
zip_next_mapped {X} {A} {B} R f xs i x lt is ys after y all one pushed =
    subst (λ (zs : List B). AllZip R (map f (take (i + 1) xs)) zs) (sym pushed)
    (subst (λ (zs : List X). AllZip R (map f zs) (ys ++ y ∷ [])) (sym (take_at_read xs i x lt).1)
    (subst (λ (zs : List A). AllZip R zs (ys ++ y ∷ [])) (sym (map-append f (take i xs) (slice_index_or xs i x ∷ [])))
    (zip_more R (map f (take i xs)) ys (f (slice_index_or xs i x)) y all (subst (λ (z : X). R (f z) y) is one))))
