-- Symbols that stand once in a list.
use Rattle.std.proofs.Common.{◌≡◌, ◌∙◌, ◌⊎◌, inl, inr, ◌<◌, ◌≤◌, ℕ, Bool, true, false, cond, List, [], ◌∷◌, ◌++◌, filter, get_or, Some, slice_get, refl, sym, ap, subst, arith}
use Rattle.std.proofs.lemmas.Bool.{cases_eq, cases_lt}
use Rattle.std.proofs.lemmas.List.{get_or_default}
use Rattle.std.proofs.lemmas.List.Elements.{Contains-append_cases, Contains-append_left}
use Rattle.std.proofs.lemmas.List.Sorted.{IsPermutation-map}
use Rattle.std.proofs.lemmas.Map.Keys.{IsDistinct-IsPermutation, IsDistinct-from_apart, apart_from_distinct}
use Rattle.std.proofs.lemmas.Option.{get_or_from_slice_get, slice_get_within}
use Rattle.std.specs.List.{Contains, IsDistinct}
use Rattle.std.specs.List.Sorted.{IsPermutation}
use Rattle.ir_tree.specs.Formed.{Distinct}
use Rattle.ir_tree.specs.Symbols.{symbol_eq}
use Rattle.ir_tree.specs.Wholes.{global_symbol, symbols}
use Rattle.ir_tree.specs.declared.module.GlobalValue.{GlobalValue}
use Rattle.ir_tree.specs.declared.operand.Symbol.{Symbol}
use Rattle.ir_tree.proofs.Symbols.{symbol_laws, symbol_same, symbol_true}
use Rattle.ir_meaning.specs.Programs.{symbol_of}
use Rattle.merge_meaning.proofs.Emission.{distinct_more}
use Rattle.merge_meaning.proofs.Looked.{StandsIn, not_first, others_once, some_is, symbol_stands}
use Rattle.merge_meaning.proofs.Names.{clash, not_true}
use Rattle.merge_meaning.proofs.Reordered.{contained, contains}
use Rattle.merge_meaning.proofs.Standing.{filter_from, first, first_or_later, in_map, later, map_from, nothing}

-- ---- one after another

pub stands_in : (ss : List Symbol) (s : Symbol) → Contains ss s → StandsIn ss s
stands_in ss s h = (h.0, contained ss h.0 s h.1 h.2)

-- the first stands nowhere else
pub not_again : (u : Symbol) (ss : List Symbol) → Distinct (u ∷ ss) → Contains ss u → ⊥
not_again u ss once h = clash (symbol_eq u u) (not_first u u ss once (stands_in ss u h)) (symbol_same u u refl)

pub apart : (xs ys : List Symbol) → Distinct (xs ++ ys) → (s : Symbol) → Contains xs s → Contains ys s → ⊥
apart [] ys once s h k = nothing s h
apart (x ∷ xs) ys once s h k = by (first_or_later x s xs h) (λ rest. apart xs ys (others_once x (xs ++ ys) once) s rest k)
  where
    behind : (xs : List Symbol) → Contains (xs ++ ys) s
    behind [] = k
    behind (z ∷ zs) = later z s (zs ++ ys) (behind zs)

    by : (x ≡ s) ⊎ Contains xs s → (Contains xs s → ⊥) → ⊥
    by (inl same) rest = not_again x (xs ++ ys) once (subst (Contains (xs ++ ys)) (sym same) (behind xs))
    by (inr more) rest = rest more

pub distinct_left : (xs ys : List Symbol) → Distinct (xs ++ ys) → Distinct xs
distinct_left [] ys once = λ i j x a b. absurd (cc a)
distinct_left (x ∷ xs) ys once =
    distinct_more x xs (λ h. not_again x (xs ++ ys) once (Contains-append_left xs ys x (contains xs h.0 x h.1))) (distinct_left xs ys (others_once x (xs ++ ys) once))

pub distinct_append : (xs ys : List Symbol) → Distinct xs → Distinct ys → ((s : Symbol) → Contains xs s → Contains ys s → ⊥) → Distinct (xs ++ ys)
distinct_append [] ys once others away = others
distinct_append (x ∷ xs) ys once others away =
    distinct_more x (xs ++ ys) (λ h. by (Contains-append_cases xs ys x (contains (xs ++ ys) h.0 x h.1)))
    (distinct_append xs ys (others_once x xs once) others (λ s h k. away s (later x s xs h) k))
  where
    by : Contains xs x ⊎ Contains ys x → ⊥
    by (inl h) = not_again x xs once h
    by (inr h) = away x (first x xs) h

pub distinct_one : (s : Symbol) → Distinct (s ∷ [])
distinct_one s = distinct_more s [] (λ h. cc (h.1)) (λ i j x a b. absurd (cc a))

-- ---- values

pub distinct_filter : (p : GlobalValue → Bool) (gs : List GlobalValue) → Distinct (symbols gs) → Distinct (symbols (filter p gs))
distinct_filter p [] once = once
distinct_filter p (g ∷ gs) once = by (p g) (distinct_filter p gs (others_once (global_symbol g) (symbols gs) once))
  where
    again : Contains (symbols (filter p gs)) (global_symbol g) → ⊥
    again h =
        let found = map_from global_symbol (filter p gs) (global_symbol g) h in
        not_again (global_symbol g) (symbols gs) once (subst (Contains (symbols gs)) found.2 (in_map global_symbol gs found.0 (filter_from p gs found.0 found.1).0))

    by : (b : Bool) → Distinct (symbols (filter p gs)) → Distinct (symbols (cond b (g ∷ filter p gs) (filter p gs)))
    by true rest = distinct_more (global_symbol g) (symbols (filter p gs)) (λ h. again (contains (symbols (filter p gs)) h.0 (global_symbol g) h.1)) rest
    by false rest = rest

-- the two words for it
to_keys : (ss : List Symbol) → Distinct ss → IsDistinct symbol_eq ss
to_keys ss once = IsDistinct-from_apart symbol_eq ss (λ i j d lt inside.
    not_true (symbol_eq (get_or ss i d) (get_or ss j d)) (λ same.
    let at_i : slice_get ss i ≡ Some (get_or ss i d) = contained ss i (get_or ss i d) (omega arith) (get_or_default ss i (get_or ss i d) d (omega arith)) in
    let at_j : slice_get ss j ≡ Some (get_or ss j d) = contained ss j (get_or ss j d) inside (get_or_default ss j (get_or ss j d) d inside) in
    let one : i ≡ j = once i j (get_or ss i d) at_i (at_j ∙ ap (λ (s : Symbol). Some s) (sym (symbol_true (get_or ss i d) (get_or ss j d) same))) in
    omega (arith, one)))

from_keys : (ss : List Symbol) → IsDistinct symbol_eq ss → Distinct ss
from_keys ss keys i j x at_i at_j = by (cases_eq i j) (cases_lt i j)
  where
    differ : (a b : ℕ) → slice_get ss a ≡ Some x → slice_get ss b ≡ Some x → a < b → ⊥
    differ a b at_a at_b lt =
        clash (symbol_eq (get_or ss a x) (get_or ss b x)) (apart_from_distinct symbol_eq ss a b x keys lt (slice_get_within ss b x at_b))
        (symbol_same (get_or ss a x) (get_or ss b x) (get_or_from_slice_get ss a x x at_a ∙ sym (get_or_from_slice_get ss b x x at_b)))

    by : (i ≡ j) ⊎ (i ≡ j → ⊥) → (i < j) ⊎ (j ≤ i) → i ≡ j
    by (inl same) order = same
    by (inr other) (inl less) = absurd (differ i j at_i at_j less)
    by (inr other) (inr more) = absurd (differ j i at_j at_i (omega (arith, other, more)))

pub distinct_moved : (xs ys : List GlobalValue) → IsPermutation xs ys → Distinct (symbols xs) → Distinct (symbols ys)
distinct_moved xs ys moved once =
    from_keys (symbols ys)
    (IsDistinct-IsPermutation symbol_eq symbol_laws.symm (symbols xs) (symbols ys) (IsPermutation-map global_symbol xs ys moved) (to_keys (symbols xs) once))

-- where no symbol stands twice, values of one symbol are one
pub one_value : (gs : List GlobalValue) → Distinct (symbols gs) → (g h : GlobalValue) → Contains gs g → Contains gs h → symbol_of g ≡ symbol_of h → g ≡ h
one_value gs once g h there also same =
    let at_g : slice_get gs there.0 ≡ Some g = contained gs there.0 g there.1 there.2 in
    let at_h : slice_get gs also.0 ≡ Some h = contained gs also.0 h also.1 also.2 in
    let place : there.0 ≡ also.0 =
    once there.0 also.0 (symbol_of g) (symbol_stands gs there.0 g at_g) (symbol_stands gs also.0 h at_h ∙ ap (λ (s : Symbol). Some s) (sym same)) in
    some_is g h (sym at_g ∙ ap (slice_get gs) place ∙ at_h)
