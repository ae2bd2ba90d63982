-- Borrowed values in order are values in order.
use Rattle.std.proofs.Common.{◌≡◌, ◌∙◌, ◌+◌, ◌<◌, Bool, true, false, cond, List, [], ◌∷◌, length, map, filter, Bor, refl, sym, ap, ap₂, arith}
use Rattle.std.proofs.lemmas.List.{get_or-map, length-map}
use Rattle.std.proofs.lemmas.List.Sorted.{IsPermutation-map}
use Rattle.std.specs.List.Sorted.{IsPermutation, IsSortedBy, IsStableBy, ties}
use Rattle.std.specs.Ordering.{is_lt}
use Rattle.ir_tree.specs.declared.module.GlobalValue.{GlobalValue}
use Rattle.merge_meaning.specs.ByName.{IsInOrder, name_cmp}
use Rattle.importer.specs.Tables.{values}

-- a borrow of this value
abbrev borrowed : GlobalValue → Bor GlobalValue
borrowed g = record { ref_ptr = (0, 0); now = g }

filter_of_map : {X Y : Type 0} (f : X → Y) (p : Y → Bool) (xs : List X) → filter p (map f xs) ≡ map f (filter (λ x. p (f x)) xs)
filter_of_map f p [] = refl
filter_of_map {X} {Y} f p (x ∷ xs) = by (p (f x)) (filter_of_map f p xs)
  where
    by : (b : Bool) → filter p (map f xs) ≡ map f (filter (λ x. p (f x)) xs)
        → cond b (f x ∷ filter p (map f xs)) (filter p (map f xs)) ≡ map f (cond b (x ∷ filter (λ x. p (f x)) xs) (filter (λ x. p (f x)) xs))
    by true rest = ap (λ (ys : List Y). f x ∷ ys) rest
    by false rest = rest

abbrev lesser : GlobalValue → GlobalValue → Bool
lesser g h = is_lt (name_cmp g h)

abbrev pub lesser_borrowed : Bor GlobalValue → Bor GlobalValue → Bool
lesser_borrowed g h = lesser g.now h.now

sorted_values : (ys : List (Bor GlobalValue)) → IsSortedBy lesser_borrowed ys → IsSortedBy lesser (values ys)
sorted_values ys sorted k d low h =
    let inside : k + 1 < length ys = omega (arith, h, length-map ys (λ (g : Bor GlobalValue). g.now)) in
    ap₂ lesser (get_or-map (λ (g : Bor GlobalValue). g.now) ys (k + 1) (borrowed d) d inside) (get_or-map (λ (g : Bor GlobalValue). g.now) ys k (borrowed d) d (omega arith))
    ∙ sorted k (borrowed d) low inside

stable_values : (xs ys : List (Bor GlobalValue)) → IsStableBy lesser_borrowed xs ys → IsStableBy lesser (values xs) (values ys)
stable_values xs ys stable g =
    filter_of_map (λ (h : Bor GlobalValue). h.now) (ties lesser g) ys ∙ ap values (stable (borrowed g)) ∙ sym (filter_of_map (λ (h : Bor GlobalValue). h.now) (ties lesser g) xs)

pub values_in_order : (xs ys : List (Bor GlobalValue)) → IsPermutation xs ys → IsSortedBy lesser_borrowed ys → IsStableBy lesser_borrowed xs ys → IsInOrder (values xs) (values ys)
values_in_order xs ys moved sorted stable = record {
  same = IsPermutation-map (λ (g : Bor GlobalValue). g.now) xs ys moved;
  sorted = sorted_values ys sorted;
  stable = stable_values xs ys stable;
}
