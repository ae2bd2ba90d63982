-- A module of a link has one task.
use Rattle.std.proofs.Common.{◌≡◌, ◌∙◌, inl, inr, ℕ, List, [], ◌∷◌, ◌++◌, map, Some, refl, sym, ap, subst}
use Rattle.std.proofs.lemmas.Cmp.{nat_list_cmp_total, tied_itself}
use Rattle.std.proofs.lemmas.List.Elements.{All-contains}
use Rattle.std.proofs.lemmas.List.Sorted.{ranks_by}
use Rattle.std.proofs.lemmas.Map.Keys.{sorted_tail}
use Rattle.std.proofs.lemmas.Map.Views.{All-after_first}
use Rattle.std.specs.Cmp.{IsTotalOrder}
use Rattle.std.specs.List.{Contains}
use Rattle.std.specs.List.Sorted.{IsStrictlySortedBy}
use Rattle.std.specs.Ordering.{is_lt}
use Rattle.std.specs.declared.cmp.Ordering.{Ordering}
use Rattle.std.specs.declared.cmp.Ordering.TheVariants.{Equal, Less}
use Rattle.ir_tree.specs.declared.module.GlobalValue.{GlobalValue}
use Rattle.ir_tree.specs.declared.operand.Symbol.{Symbol}
use Rattle.ir_meaning.specs.Programs.{symbol_of}
use Rattle.lto_task.specs.Pieces.{NamesRise}
use Rattle.lto_task.specs.Tasks.{TaskView}
use Rattle.merge_meaning.specs.ByName.{IsInOrder, name_cmp}
use Rattle.merge_meaning.proofs.Looked.{some_is}
use Rattle.merge_meaning.proofs.Standing.{first, first_or_later, later, nothing}
use Rattle.thin_link.proofs.Determined.{same_from_map}
use Rattle.importer.specs.Brought.{brought}
use Rattle.importer.specs.TaskLaws.{TaskIsOne}
use Rattle.importer.specs.Tasks.{IsClosedUp, IsModuleOf, IsTaskOf, declared_as, name_of}
use Rattle.combined_index.proofs.StableSorts.{same_sorted}

-- ---- what rises and has the same elements

module _ {K : Type 0} (R : K → K → Ordering) (o : IsTotalOrder R) where
  not_below_itself : (x : K) → R x x ≡ Less → ⊥
  not_below_itself x less = let no : Less ≡ Equal = sym less ∙ tied_itself o x in cc no

  above : (x : K) (xs : List K) → IsStrictlySortedBy R (x ∷ xs) → (y : K) → Contains xs y → R x y ≡ Less
  above x xs up y there = All-contains (λ (q : K). R x q ≡ Less) xs y (All-after_first R x xs up) there

  -- the first is the first
  same_first : (x y : K) (xs ys : List K) → IsStrictlySortedBy R (x ∷ xs) → IsStrictlySortedBy R (y ∷ ys) → Contains (y ∷ ys) x → Contains (x ∷ xs) y → x ≡ y
  same_first x y xs ys up rise there also = elim (first_or_later y x ys there) [
    | inl same ↦ sym same
    | inr behind ↦ elim (first_or_later x y xs also) [
      | inl same ↦ same
      | inr back ↦ absurd (not_below_itself x (o.trans x y x (above x xs up y back) (above y ys rise x behind)))
    ]
  ]

  -- what stands behind it stands behind it
  among_others : (x y : K) (xs ys : List K) → IsStrictlySortedBy R (x ∷ xs) → x ≡ y → (z : K) → Contains xs z → Contains (y ∷ ys) z → Contains ys z
  among_others x y xs ys up same z there also = elim (first_or_later y z ys also) [
    | inl is ↦ absurd (not_below_itself x (subst (λ (w : K). R x w ≡ Less) (sym (same ∙ is)) (above x xs up z there)))
    | inr more ↦ more
  ]

  pub same_rising : (xs ys : List K) → IsStrictlySortedBy R xs → IsStrictlySortedBy R ys → ((z : K) → Contains xs z → Contains ys z) → ((z : K) → Contains ys z → Contains xs z) → xs ≡ ys
  same_rising [] [] up rise to back = refl
  same_rising [] (y ∷ ys) up rise to back = absurd (nothing y (back y (first y ys)))
  same_rising (x ∷ xs) [] up rise to back = absurd (nothing x (to x (first x xs)))
  same_rising (x ∷ xs) (y ∷ ys) up rise to back =
      let head : x ≡ y = same_first x y xs ys up rise (to x (first x xs)) (back y (first y ys)) in
      let tail : xs ≡ ys = same_rising xs ys (sorted_tail R x xs up) (sorted_tail R y ys rise)
      (λ z c. among_others x y xs ys up head z c (to z (later x z xs c)))
      (λ z c. among_others y x ys xs rise (sym head) z c (back z (later y z ys c))) in
      λ i. head i ∷ tail i

one_list : (names others : List (List ℕ)) → NamesRise names → NamesRise others → ((n : List ℕ) → Contains names n → Contains others n) → ((n : List ℕ) → Contains others n → Contains names n) → names ≡ others
one_list names others up rise to back = same_rising _ nat_list_cmp_total names others up rise to back

one_order : (before after other : List GlobalValue) → IsInOrder before after → IsInOrder before other → after ≡ other
one_order before after other h g =
    same_sorted (λ (a b : GlobalValue). is_lt (name_cmp a b)) (ranks_by nat_list_cmp_total (λ (x : GlobalValue). (symbol_of x).name)) after other h.sorted g.sorted (λ x. h.stable x ∙ sym (g.stable x))

-- ---- modules of a task

one_closure : (all values ds es : List GlobalValue) → IsClosedUp all values ds → IsClosedUp all values es → ds ≡ es
one_closure all values ds es a b =
    same_from_map name_of (λ d. declared_as all (name_of d) ≡ Some d) (λ d e x y same. some_is d e (sym x ∙ ap (declared_as all) same ∙ y)) ds es a.each b.each
    (one_list (map name_of ds) (map name_of es) a.rise b.rise (λ n c. (b.just n).1 ((a.just n).0 c)) (λ n c. (a.just n).1 ((b.just n).0 c)))

one_module : (all values gs hs : List GlobalValue) → IsModuleOf all values gs → IsModuleOf all values hs → gs ≡ hs
one_module all values gs hs a b = a.is ∙ ap (λ (ds : List GlobalValue). values ++ ds) (one_closure all values a.declared b.declared a.closed b.closed) ∙ sym b.is

-- ---- tasks

module _ (exports : List (List ℕ)) (limit : ℕ) (all : List GlobalValue) (symbols : List Symbol) (suffixes : List (List ℕ)) (imports promoted : List ℕ) (part : List GlobalValue) (t u : TaskView)
    (a : IsTaskOf exports limit all symbols suffixes imports promoted part t) (b : IsTaskOf exports limit all symbols suffixes imports promoted part u) where
  limits : t.inline_limit ≡ u.inline_limit
  limits = a.limit_is ∙ sym b.limit_is

  exported : t.exports ≡ u.exports
  exported = one_list t.exports u.exports a.exports_rise b.exports_rise (λ n c. (b.exports_are n).1 ((a.exports_are n).0 c)) (λ n c. (a.exports_are n).1 ((b.exports_are n).0 c))

  promotions : t.promoted ≡ u.promoted
  promotions = one_list t.promoted u.promoted a.promoted_rise b.promoted_rise (λ n c. (b.promoted_are n).1 ((a.promoted_are n).0 c)) (λ n c. (a.promoted_are n).1 ((b.promoted_are n).0 c))

  own : t.own ≡ u.own
  own = one_module all part t.own u.own a.own b.own

  bodies : a.bodies ≡ b.bodies
  bodies = one_order (brought all symbols suffixes imports) a.bodies b.bodies a.bodies_are b.bodies_are

  imported : t.imported ≡ u.imported
  imported = one_module all b.bodies t.imported u.imported (subst (λ (gs : List GlobalValue). IsModuleOf all gs t.imported) bodies a.imported) b.imported

  pub one_task : t ≡ u
  one_task = λ i. record { inline_limit = limits i; exports = exported i; promoted = promotions i; own = own i; imported = imported i }

pub task_is_one : TaskIsOne
task_is_one exports limit all symbols suffixes imports promoted part t u a b = one_task exports limit all symbols suffixes imports promoted part t u a b
