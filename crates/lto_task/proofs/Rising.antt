-- Names that are sorted, each once, rise, and are the same names; so are those of copies.
use Rattle.std.proofs.Common.{◌≡◌, ◌∙◌, ◌↔◌, ◌<◌, ℕ, Bool, List, [], ◌∷◌, length, get_or, Bor, sym, ap, subst, arith}
use Rattle.std.specs.List.{AllByRecursion, Contains, dedup}
use Rattle.std.specs.List.Sorted.{IsPermutation, IsSorted, IsStrictlySortedBy}
use Rattle.std.specs.Cmp.Lexicographic.{on_texts, pointwise, slice_cmp, texts_ties, on_texts_equal}
use Rattle.std.specs.Ordering.{nat_cmp}
use Rattle.std.specs.Prelude.{nat_eq}
use Rattle.std.specs.declared.cmp.Ordering.{Ordering}
use Rattle.std.specs.declared.cmp.Ordering.TheVariants.{Less}
use Rattle.std.proofs.lemmas.List.{get_or-map, length-map}
use Rattle.std.proofs.lemmas.List.Elements.{Contains-get_or}
use Rattle.std.proofs.lemmas.List.Sorted.{Contains-permutation, IsPermutation-sym}
use Rattle.std.proofs.lemmas.Slice.Eq.{bytes_eq-Decides}
use Rattle.std.proofs.lemmas.List.Kept.{Any-dedup, Contains-from_dedup, IsStrictlySortedBy-dedup}
use Rattle.ir_summary.specs.Once.{texts}
use Rattle.lto_task.specs.Pieces.{NamesRise}

abbrev borrowed_cmp : Bor (List ℕ) → Bor (List ℕ) → Ordering
borrowed_cmp x y = slice_cmp nat_cmp x.now y.now

abbrev same_borrowed : Bor (List ℕ) → Bor (List ℕ) → Bool
same_borrowed x y = pointwise nat_eq x.now y.now

-- what rises when borrowed rises by itself
texts_rise : (xs : List (Bor (List ℕ))) → IsStrictlySortedBy borrowed_cmp xs → IsStrictlySortedBy (slice_cmp nat_cmp) (texts xs)
unfolding IsStrictlySortedBy
texts_rise [] up = up
texts_rise (x ∷ xs) up = (above xs up.0, texts_rise xs up.1)
  where
    above : (ys : List (Bor (List ℕ))) → AllByRecursion (λ y. borrowed_cmp x y ≡ Less) ys → AllByRecursion (λ y. slice_cmp nat_cmp x.now y ≡ Less) (texts ys)
    above [] all = all
    above (y ∷ ys) all = (all.0, above ys all.1)

pub sorted_rise : (xs : List (Bor (List ℕ))) → IsSorted borrowed_cmp xs → NamesRise (texts (dedup same_borrowed xs))
sorted_rise xs sorted = texts_rise (dedup same_borrowed xs) (IsStrictlySortedBy-dedup (on_texts (λ x. x.now)) (λ x y. texts_ties x.now y.now) xs sorted)

-- ---- the same names

-- a borrow of this name
abbrev borrowed : List ℕ → Bor (List ℕ)
borrowed name = record { ref_ptr = (0, 0); now = name }

from_texts : (xs : List (Bor (List ℕ))) (name : List ℕ) → Contains (texts xs) name → (x : Bor (List ℕ)) × Contains xs x × (x.now ≡ name)
from_texts xs name (k, below, is) =
    let inside : k < length xs = omega (arith, below, length-map xs (λ (x : Bor (List ℕ)). x.now)) in
    (get_or xs k (borrowed name), Contains-get_or xs k (borrowed name) inside, sym (get_or-map (λ (x : Bor (List ℕ)). x.now) xs k (borrowed name) name inside) ∙ is)

in_texts : (xs : List (Bor (List ℕ))) (x : Bor (List ℕ)) → Contains xs x → Contains (texts xs) x.now
in_texts xs x (k, inside, is) = (
  k,
  omega (arith, inside, length-map xs (λ (y : Bor (List ℕ)). y.now)),
  get_or-map (λ (y : Bor (List ℕ)). y.now) xs k x x.now inside ∙ ap (λ (y : Bor (List ℕ)). y.now) is,
)

pub same_names : (xs ys : List (Bor (List ℕ))) → IsPermutation xs ys → (name : List ℕ) → Contains (texts (dedup same_borrowed ys)) name ↔ Contains (texts xs) name
same_names xs ys moved name = (
  λ h.
      let found = from_texts (dedup same_borrowed ys) name h in
      subst (Contains (texts xs)) found.2
      (in_texts xs found.0 (Contains-permutation ys xs found.0 (IsPermutation-sym xs ys moved) (Contains-from_dedup same_borrowed ys found.0 found.1))),
  λ h.
      let found = from_texts xs name h in
      let twin = Any-dedup (on_texts_equal (λ x. x.now)) ys found.0 (Contains-permutation xs ys found.0 moved found.1) in
      subst (Contains (texts (dedup same_borrowed ys))) (sym ((bytes_eq-Decides found.0.now twin.1.now).0 twin.4) ∙ found.2)
      (in_texts (dedup same_borrowed ys) twin.1 (twin.0, twin.2, twin.3)),
)
