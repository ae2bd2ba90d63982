-- Entries in order are what is shown of them in order.
use Rattle.std.proofs.Common.{◌≡◌, ◌∙◌, ◌+◌, ◌<◌, Bool, true, false, cond, List, [], ◌∷◌, length, map, filter, refl, sym, ap, ap₂, arith}
use Rattle.std.proofs.lemmas.List.{get_or-map, length-map}
use Rattle.std.proofs.lemmas.List.Sorted.{IsPermutation-map}
use Rattle.std.specs.List.Sorted.{IsPermutation, IsSortedBy, IsStableBy, ties}
use Rattle.std.specs.Ordering.{is_lt}
use Rattle.thin_link.specs.Listed.{IsInOrder, Listed, listed_cmp}
use Rattle.thin_link.specs.Rows.{all_shown, shown}
use Rattle.thin_link.specs.declared.entry.Entry.{Entry}

-- an entry that shows as this
abbrev hidden : Listed → Entry
hidden l = record { name = record { ref_ptr = (0, 0); now = l.name }; home = l.home; definition = record { ref_ptr = (0, 0); now = l.definition } }

filter_map : {X Y : Type 0} (f : X → Y) (p : Y → Bool) (xs : List X) → filter p (map f xs) ≡ map f (filter (λ x. p (f x)) xs)
filter_map f p [] = refl
filter_map {X} {Y} f p (x ∷ xs) = by (p (f x)) (filter_map f p xs)
  where
    by : (b : Bool) → filter p (map f xs) ≡ map f (filter (λ x. p (f x)) xs)
        → cond b (f x ∷ filter p (map f xs)) (filter p (map f xs)) ≡ map f (cond b (x ∷ filter (λ x. p (f x)) xs) (filter (λ x. p (f x)) xs))
    by true rest = ap (λ (ys : List Y). f x ∷ ys) rest
    by false rest = rest

abbrev lesser : Listed → Listed → Bool
lesser a b = is_lt (listed_cmp a b)

abbrev lesser_shown : Entry → Entry → Bool
lesser_shown a b = lesser (shown a) (shown b)

sorted_shown : (ys : List Entry) → IsSortedBy lesser_shown ys → IsSortedBy lesser (all_shown ys)
sorted_shown ys sorted k d low h =
    let inside : k + 1 < length ys = omega (arith, h, length-map ys shown) in
    ap₂ lesser (get_or-map shown ys (k + 1) (hidden d) d inside) (get_or-map shown ys k (hidden d) d (omega arith)) ∙ sorted k (hidden d) low inside

stable_shown : (xs ys : List Entry) → IsStableBy lesser_shown xs ys → IsStableBy lesser (all_shown xs) (all_shown ys)
stable_shown xs ys stable l =
    filter_map shown (ties lesser l) ys ∙ ap (map shown) (stable (hidden l)) ∙ sym (filter_map shown (ties lesser l) xs)

pub in_order : (xs ys : List Entry) → IsPermutation xs ys → IsSortedBy lesser_shown ys → IsStableBy lesser_shown xs ys → IsInOrder (all_shown xs) (all_shown ys)
in_order xs ys moved sorted stable = record {
  same = IsPermutation-map shown xs ys moved;
  sorted = sorted_shown ys sorted;
  stable = stable_shown xs ys stable;
}
