-- What a task is compiled to is a unit: the names of its pieces rise.
use Rattle.std.proofs.Common.{◌≡◌, ◌∙◌, ◌+◌, ◌<◌, ℕ, Bool, false, List, [], ◌∷◌, All, None, Option, Some, map, length, get_or, refl, sym, ap, ap₂, subst, arith}
use Rattle.std.proofs.lemmas.Bool.{false≢true}
use Rattle.std.proofs.lemmas.Cmp.{nat_list_cmp_total}
use Rattle.std.proofs.lemmas.List.{get_or-map, length-map}
use Rattle.std.proofs.lemmas.List.Elements.{All-cons, All-filter, All-nil}
use Rattle.std.proofs.lemmas.List.Sorted.{All-permutation, IsPermutation-map}
use Rattle.std.proofs.lemmas.Map.Keys.{sorted_from_all_adjacent}
use Rattle.std.proofs.lemmas.Option.{slice_get-get_or}
use Rattle.std.proofs.lemmas.Slice.Eq.{bytes_eq-Decides}
use Rattle.std.specs.Cmp.Lexicographic.{slice_cmp, texts_ties}
use Rattle.std.specs.List.{AllZip}
use Rattle.std.specs.List.Sorted.{IsSorted}
use Rattle.std.specs.Ordering.{is_eq, is_lt, nat_cmp, ordering_reverse}
use Rattle.std.specs.declared.cmp.Ordering.{Ordering}
use Rattle.std.specs.declared.cmp.Ordering.TheVariants.{Equal, Greater, Less}
use Rattle.ir_tree.specs.Formed.{Distinct}
use Rattle.ir_tree.specs.Wholes.{IsVerified, global_symbol, symbols}
use Rattle.ir_tree.specs.declared.function.Function.{Function}
use Rattle.ir_tree.specs.declared.module.GlobalValue.{GlobalValue}
use Rattle.ir_tree.specs.declared.operand.Symbol.{Symbol}
use Rattle.merge_meaning.proofs.Looked.{same_symbol}
use Rattle.back_end.specs.Laws.{MadeHasInterface}
use Rattle.emit.specs.Joins.{piece_cmp}
use Rattle.lto_task.specs.Pieces.{NamesRise}
use Rattle.lto_task.specs.Tasks.{TaskView, module_of}
use Rattle.lto_task.specs.Units.{IsUnit, IsWritten}
use Rattle.lto_task.specs.declared.piece.Piece.{Piece}
use Rattle.importer.specs.Tasks.{name_of}
use Rattle.importer.proofs.Members.{image_stands, of_each}
use Rattle.importer.proofs.OnceNamed.{distinct_kept, moved_once, names_once}
use Rattle.link_one.specs.TaskUnits.{IsTaskUnit, bodies_in_task, definitions, is_defined}
use Rattle.link_one.specs.Units.{IsLinkedPiece}
use Rattle.link_one.proofs.Offering.{linked_symbol, settled_symbol}

-- ---- names that are sorted, each once

less : (a b : List ℕ) → is_lt (slice_cmp nat_cmp b a) ≡ false → (a ≡ b → ⊥) → slice_cmp nat_cmp a b ≡ Less
less a b sorted differ = by (slice_cmp nat_cmp a b) refl
  where
    by : (o : Ordering) → slice_cmp nat_cmp a b ≡ o → slice_cmp nat_cmp a b ≡ Less
    by Less e = e
    by Equal e = absurd (differ ((bytes_eq-Decides a b).0 (texts_ties a b ∙ ap is_eq e)))
    by Greater e = absurd (false≢true (sym sorted ∙ ap is_lt (nat_list_cmp_total.antisymm b a ∙ ap ordering_reverse e)))

abbrev named : Piece → List ℕ
named p = p.name

blank : Piece
blank = record { name = []; refs = []; text = [] }

sorted_names_rise : (ps : List Piece) → IsSorted piece_cmp ps → Distinct (map named ps) → NamesRise (map named ps)
sorted_names_rise ps sorted once =
    sorted_from_all_adjacent nat_list_cmp_total (map named ps) []
    (λ k within.
    let inside : k + 1 < length ps = omega (arith, within, length-map ps named) in
    let before : k < length (map named ps) = omega (arith, within) in
    let here : get_or (map named ps) k [] ≡ (get_or ps k blank).name = get_or-map named ps k blank [] (omega (arith, inside)) in
    let next : get_or (map named ps) (k + 1) [] ≡ (get_or ps (k + 1) blank).name = get_or-map named ps (k + 1) blank [] inside in
    less (get_or (map named ps) k []) (get_or (map named ps) (k + 1) [])
    (ap₂ (λ (a b : List ℕ). is_lt (slice_cmp nat_cmp a b)) next here ∙ sorted k blank (omega arith) inside)
    (λ same.
    let one : k ≡ k + 1 =
    once k (k + 1) (get_or (map named ps) k []) (slice_get-get_or (map named ps) k [] before) (slice_get-get_or (map named ps) (k + 1) [] within ∙ ap Some (sym same)) in
    omega (arith, one)))

-- ---- pieces have the names of what they are made of

module _ (interface : MadeHasInterface) (bodies : List ℕ → Option Function) (exports : List (List ℕ)) where
  piece_named : (g : GlobalValue) (p : Piece) → IsLinkedPiece bodies exports g p → p.name ≡ name_of g
  piece_named g p l = l.piece.name ∙ ap (λ (s : Symbol). s.name) (settled_symbol exports l.value ∙ linked_symbol interface bodies g l.value l.made ∙ same_symbol g)

  names_are : (gs : List GlobalValue) (ps : List Piece) → AllZip (IsLinkedPiece bodies exports) gs ps → map named ps ≡ map name_of gs
  names_are [] [] z = refl
  names_are [] (p ∷ ps) z = absurd z
  names_are (g ∷ gs) [] z = absurd z
  names_are (g ∷ gs) (p ∷ ps) z = ap₂ (λ (n : List ℕ) (ns : List (List ℕ)). n ∷ ns) (piece_named g p z.0) (names_are gs ps z.1)

  refs_rise : (gs : List GlobalValue) (ps : List Piece) → AllZip (IsLinkedPiece bodies exports) gs ps → All (λ p. NamesRise p.refs) ps
  refs_rise [] [] z = All-nil (λ (p : Piece). NamesRise p.refs)
  refs_rise [] (p ∷ ps) z = absurd z
  refs_rise (g ∷ gs) [] z = absurd z
  refs_rise (g ∷ gs) (p ∷ ps) z = All-cons (λ (q : Piece). NamesRise q.refs) p ps z.0.piece.rise (refs_rise gs ps z.1)

-- ---- the unit

verified_once : (gs : List GlobalValue) → IsVerified (module_of gs) → Distinct (map name_of gs)
verified_once gs verified =
    names_once gs
    (λ g s. ap (λ (u : Symbol). u.home) (sym (same_symbol g)) ∙ of_each (λ (u : Symbol). u.home ≡ None) (symbols gs) (global_symbol g) verified.whole.homeless (image_stands global_symbol gs g s))
    verified.whole.once

pub task_unit_rises : MadeHasInterface → (t : TaskView) (unit : List Piece) → IsVerified (module_of t.own) → All IsWritten unit → IsTaskUnit t unit → IsUnit unit
task_unit_rises interface t unit verified written u =
    let keeps : Piece → Bool = λ p. u.are_kept.stripped.keeps p.name in
    let named_once : Distinct (map named u.are_kept.pieces) =
    subst Distinct (sym (names_are interface (bodies_in_task t) t.exports (definitions t.own) u.are_kept.pieces u.are_kept.made)) (distinct_kept name_of is_defined t.own (verified_once t.own verified)) in
    let kept_once : Distinct (map named u.kept) = subst (λ (ps : List Piece). Distinct (map named ps)) (sym u.are_kept.stripped.is) (distinct_kept named keeps u.are_kept.pieces named_once) in
    let refs : All (λ p. NamesRise p.refs) u.kept =
    subst (All (λ (p : Piece). NamesRise p.refs)) (sym u.are_kept.stripped.is)
    (All-filter keeps (λ (p : Piece). NamesRise p.refs) u.are_kept.pieces (refs_rise interface (bodies_in_task t) t.exports (definitions t.own) u.are_kept.pieces u.are_kept.made)) in
    record {
      each = written;
      refs = All-permutation (λ (p : Piece). NamesRise p.refs) u.kept unit u.order.same refs;
      rise = sorted_names_rise unit u.order.sorted (moved_once (map named u.kept) (map named unit) (IsPermutation-map named u.kept unit u.order.same) kept_once);
    }
