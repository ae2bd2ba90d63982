-- The unit of a module's task holds, by name, what the link keeps of the pieces of its part.
use Rattle.std.proofs.Common.{◌≡◌, ◌≢◌, ◌∙◌, inl, inr, ℕ, zero, suc, ◌+◌, Bool, true, false, if◌then◌else◌, List, [], ◌∷◌, ◌++◌, append-nil, map, length, All, Option, Some, None, refl, sym, ap, ap₂, subst, arith}
use Rattle.std.proofs.Math.Path.{fun_ext}
use Rattle.std.proofs.lemmas.List.Elements.{All-head, All-tail, Contains-append_cases, Contains-append_left, Contains-append_right, filter-append}
use Rattle.std.proofs.lemmas.Slice.Eq.{bytes_eq-Decides}
use Rattle.std.specs.List.{AllZip, Contains, filter, list_any}
use Rattle.std.specs.Prelude.{is_some, slice_get, slice_index_or}
use Rattle.std.specs.Str.{bytes_eq}
use Rattle.ir_tree.specs.Initials.{Initial}
use Rattle.ir_tree.specs.Linkages.{defines}
use Rattle.ir_tree.specs.declared.block.Block.{Block}
use Rattle.ir_tree.specs.declared.function.Function.{Function}
use Rattle.ir_tree.specs.declared.function.Linkage.{Linkage}
use Rattle.ir_tree.specs.declared.function.Linkage.TheVariants.{External, Internal}
use Rattle.ir_tree.specs.declared.function.Variable.{Variable}
use Rattle.ir_tree.specs.declared.module.GlobalValue.{GlobalValue}
use Rattle.ir_tree.specs.declared.module.GlobalValue.TheVariants as global
use Rattle.ir_tree.specs.declared.operand.Symbol.{Symbol}
use Rattle.ir_meaning.specs.Programs.{body_of, storage_of, symbol_of}
use Rattle.merge_meaning.specs.Linked.{IsDefinition}
use Rattle.merge_meaning.specs.Hosts.{getchar, putchar}
use Rattle.merge_meaning.proofs.Looked.{same_symbol}
use Rattle.merge_meaning.proofs.Standing.{any_by, any_from, in_map}
use Rattle.back_end.specs.Inlinable.{bodies_of, has_blocks}
use Rattle.back_end.specs.Laws.{MadeHasInterface}
use Rattle.emit.specs.Emissions.{linkage_of, settled}
use Rattle.emit.specs.Joins.{IsInNameOrder, IsUsed, asked, referred_by}
use Rattle.emit.specs.Strips.{IsStripped}
use Rattle.lto_task.specs.Declarations.{declaration_of}
use Rattle.lto_task.specs.Pieces.{IsPieceOf}
use Rattle.lto_task.specs.Tasks.{TaskView}
use Rattle.lto_task.specs.declared.piece.Piece.{Piece}
use Rattle.importer.specs.Brought.{brought, joined, names_of}
use Rattle.importer.specs.Tasks.{IsClosedUp, IsTaskOf, declared_as, name_of}
use Rattle.importer.proofs.Members.{Stands, all_of, contained, either_part, first_or_later, found_stands, mapped_from, of_each, zip_map}
use Rattle.link_one.specs.Linked.{bodies_for}
use Rattle.link_one.specs.ModuleUnits.{AreUnits}
use Rattle.link_one.specs.TaskUnits.{IsTaskUnit, bodies_in_task, definitions, is_defined}
use Rattle.link_one.specs.Units.{IsLinkedPiece, shown}
use Rattle.link_one.proofs.Printed.{ArePrinted, offers}
use Rattle.link_one.proofs.Among.{IsCompiled, printed_of}
use Rattle.link_one.proofs.Moved.{filter_off, filter_on, same_test}
use Rattle.link_one.proofs.Offering.{linked_symbol}
use Rattle.link_one.proofs.TaskBodies.{task_bodies}

-- ---- definitions and declarations

on_blocks : (bs : List Block) (l : Bool) (f : Function) → body_of (if l then bs else []) f ≢ None → has_blocks bs ≡ true
on_blocks [] true f some = absurd (some refl)
on_blocks [] false f some = absurd (some refl)
on_blocks (b ∷ bs) l f some = refl

on_init : (o : Option Initial) (l : Bool) (v : Variable) → storage_of (if l then o else None) 0 v ≢ None → is_some o ≡ true
on_init None true v some = absurd (some refl)
on_init None false v some = absurd (some refl)
on_init (Some init) l v some = refl

definition_on : (g : GlobalValue) → IsDefinition g → is_defined g ≡ true
definition_on (global.Function f) some = on_blocks f.blocks (defines f.linkage) f some
definition_on (global.Variable v) some = on_init v.init (defines v.linkage) v some

declaration_off : (g : GlobalValue) → is_defined (declaration_of g) ≡ false
declaration_off (global.Function f) = refl
declaration_off (global.Variable v) = refl

declared_off : (all : List GlobalValue) (d : GlobalValue) (name : List ℕ) → declared_as all name ≡ Some d → is_defined d ≡ false
declared_off all d name e =
    elim (either_part (map declaration_of all) (getchar ∷ (putchar ∷ [])) d (found_stands (λ h. bytes_eq (symbol_of h).name name) (map declaration_of all ++ (getchar ∷ (putchar ∷ []))) d e)) [
      | inl from ↦ let g = mapped_from declaration_of all d from in ap is_defined g.2 ∙ declaration_off g.0
      | inr host ↦ elim (first_or_later getchar (putchar ∷ []) d host) [
        | inl same ↦ sym (ap is_defined same)
        | inr more ↦ elim (first_or_later putchar [] d more) [ inl same ↦ sym (ap is_defined same) | inr (i, here) ↦ absurd (cc here) ]
      ]
    ]

closed_off : (all values declared : List GlobalValue) → IsClosedUp all values declared → All (λ d. is_defined d ≡ false) declared
closed_off all values declared closed =
    all_of (λ (d : GlobalValue). is_defined d ≡ false) declared
    (λ d s. declared_off all d (name_of d) (of_each (λ (g : GlobalValue). declared_as all (name_of g) ≡ Some g) declared d closed.each s))

all_on : (gs : List GlobalValue) → All IsDefinition gs → filter is_defined gs ≡ gs
all_on [] defines = refl
all_on (g ∷ gs) defines =
    filter_on is_defined g gs (definition_on g (All-head IsDefinition g gs defines)) ∙ ap (λ (l : List GlobalValue). g ∷ l) (all_on gs (All-tail IsDefinition g gs defines))

all_off : (gs : List GlobalValue) → All (λ d. is_defined d ≡ false) gs → filter is_defined gs ≡ []
all_off [] off = refl
all_off (g ∷ gs) off =
    filter_off is_defined g gs (All-head (λ (d : GlobalValue). is_defined d ≡ false) g gs off) ∙ all_off gs (All-tail (λ (d : GlobalValue). is_defined d ≡ false) g gs off)

definitions_are : (part declared : List GlobalValue) → All IsDefinition part → All (λ d. is_defined d ≡ false) declared → definitions (part ++ declared) ≡ part
definitions_are part declared defines off =
    filter-append is_defined part declared ∙ ap₂ (λ (a b : List GlobalValue). a ++ b) (all_on part defines) (all_off declared off) ∙ append-nil part

-- ---- exported names

linkage_same : (exports others : List (List ℕ)) (name : List ℕ) → (Contains exports name → Contains others name) → (Contains others name → Contains exports name) → linkage_of exports name ≡ linkage_of others name
linkage_same exports others name to back =
    ap (λ (b : Bool). if b then External else Internal)
    (same_test (list_any (bytes_eq name) exports) (list_any (bytes_eq name) others) (carried exports others to) (carried others exports back))
  where
    carried : (es fs : List (List ℕ)) → (Contains es name → Contains fs name) → list_any (bytes_eq name) es ≡ true → list_any (bytes_eq name) fs ≡ true
    carried es fs so h =
        let found = any_from (bytes_eq name) es h in
        any_by (bytes_eq name) fs name (so (subst (Contains es) (sym ((bytes_eq-Decides name found.0).0 found.2)) found.1)) ((bytes_eq-Decides name name).1 refl)

settled_same : (exports others : List (List ℕ)) (g : GlobalValue) → linkage_of exports (symbol_of g).name ≡ linkage_of others (symbol_of g).name → settled exports g ≡ settled others g
settled_same exports others (global.Variable v) e = ap (λ (l : Linkage). global.Variable (record v { linkage = l })) e
settled_same exports others (global.Function f) e = ap (λ (l : Linkage). global.Function (record f { linkage = l })) e

-- ---- what is kept of pieces

used_more : (offered others : List (List ℕ)) (pieces : List Piece) → ((name : List ℕ) → Contains offered name → Contains others name) → (name : List ℕ) → IsUsed offered pieces name → IsUsed others pieces name
used_more offered others pieces so name (asked _ h) = asked name (so name h)
used_more offered others pieces so name (referred_by p _ there used refers) = referred_by p name there (used_more offered others pieces so p.name used) refers

same_stripped : (offered others : List (List ℕ)) (pieces kept : List Piece) → ((name : List ℕ) → Contains offered name → Contains others name) → ((name : List ℕ) → Contains others name → Contains offered name)
    → IsStripped (record { offers = offered; pieces = pieces }) kept → IsStripped (record { offers = others; pieces = pieces }) kept
same_stripped offered others pieces kept to back s = record {
  keeps = s.keeps;
  reached = λ name. (λ on. used_more offered others pieces to name ((s.reached name).0 on), λ used. (s.reached name).1 (used_more others offered pieces back name used));
  is = s.is;
}

with_front : (front xs ys : List (List ℕ)) → ((name : List ℕ) → Contains xs name → Contains ys name) → (name : List ℕ) → Contains (front ++ xs) name → Contains (front ++ ys) name
with_front front xs ys so name h = elim (Contains-append_cases front xs name h) [
  | inl first ↦ Contains-append_left front ys name first
  | inr more ↦ Contains-append_right front ys name (so name more)
]

-- ---- one module

module _ (interface : MadeHasInterface) (exports : List (List ℕ)) (limit : ℕ) (all : List GlobalValue) (symbols : List Symbol) (suffixes : List (List ℕ)) (imports promoted : List ℕ) (part : List GlobalValue) (t : TaskView)
    (task : IsTaskOf exports limit all symbols suffixes imports promoted part t) (defines : All IsDefinition part) where
  own_off : All (λ d. is_defined d ≡ false) task.own.declared
  own_off = closed_off all part task.own.declared task.own.closed

  imported_off : All (λ d. is_defined d ≡ false) task.imported.declared
  imported_off = closed_off all task.bodies task.imported.declared task.imported.closed

  own_are : definitions t.own ≡ part
  own_are = ap definitions task.own.is ∙ definitions_are part task.own.declared defines own_off

  abbrev bodies : List ℕ → Option Function
  bodies = bodies_for limit all symbols suffixes imports part

  bodies_are : bodies_in_task t ≡ bodies
  bodies_are = fun_ext (λ name.
      ap (λ (n : ℕ). bodies_of n (t.imported ++ t.own) name) task.limit_is
      ∙ ap₂ (λ (a b : List GlobalValue). bodies_of limit (a ++ b) name) task.imported.is task.own.is
      ∙ task_bodies limit name (brought all symbols suffixes imports) task.bodies task.imported.declared part task.own.declared task.bodies_are imported_off own_off)

  piece_same : (g : GlobalValue) (p : Piece) → Stands part g → IsLinkedPiece bodies t.exports g p → IsLinkedPiece bodies exports g p
  piece_same g p stands piece =
      let symbol : symbol_of piece.value ≡ symbol_of g = sym (same_symbol piece.value) ∙ linked_symbol interface bodies g piece.value piece.made ∙ same_symbol g in
      let there : Contains (map name_of part) (symbol_of piece.value).name =
      subst (λ (s : Symbol). Contains (map name_of part) s.name) (sym symbol) (in_map name_of part g (contained part g stands)) in
      let linkage : linkage_of t.exports (symbol_of piece.value).name ≡ linkage_of exports (symbol_of piece.value).name =
      linkage_same t.exports exports (symbol_of piece.value).name (λ h. ((task.exports_are (symbol_of piece.value).name).0 h).0) (λ h. (task.exports_are (symbol_of piece.value).name).1 (h, there)) in
      record { value = piece.value; made = piece.made; piece = subst (λ (v : GlobalValue). IsPieceOf v p) (settled_same t.exports exports piece.value linkage) piece.piece }

  pub kept_of : (unit : List Piece) → IsTaskUnit t unit
      → (kept : List Piece) × ((pieces : List Piece) × AllZip (IsLinkedPiece bodies exports) part pieces × IsStripped (record { offers = offers symbols suffixes promoted part; pieces = pieces }) kept) × IsInNameOrder kept unit
  kept_of unit u =
      let made : AllZip (IsLinkedPiece bodies t.exports) part u.are_kept.pieces =
      subst (λ (gs : List GlobalValue). AllZip (IsLinkedPiece bodies t.exports) gs u.are_kept.pieces) own_are
      (subst (λ (b : List ℕ → Option Function). AllZip (IsLinkedPiece b t.exports) (definitions t.own) u.are_kept.pieces) bodies_are u.are_kept.made) in
      let shown_are : shown (definitions t.own) ++ t.promoted ≡ shown part ++ t.promoted = ap (λ (gs : List GlobalValue). shown gs ++ t.promoted) own_are in
      let stripped : IsStripped (record { offers = shown part ++ t.promoted; pieces = u.are_kept.pieces }) u.kept =
      subst (λ (names : List (List ℕ)). IsStripped (record { offers = names; pieces = u.are_kept.pieces }) u.kept) shown_are u.are_kept.stripped in (
        u.kept,
        (
          u.are_kept.pieces,
          zip_map (IsLinkedPiece bodies t.exports) (IsLinkedPiece bodies exports) part u.are_kept.pieces (λ g p s piece. piece_same g p s piece) made,
          same_stripped (shown part ++ t.promoted) (offers symbols suffixes promoted part) u.are_kept.pieces u.kept
              (with_front (shown part) t.promoted (names_of symbols suffixes promoted) (λ name h. (task.promoted_are name).0 h))
              (with_front (shown part) (names_of symbols suffixes promoted) t.promoted (λ name h. (task.promoted_are name).1 h))
              stripped,
        ),
        u.order,
      )

-- ---- all modules

-- one list for each unit, place by place
module _ (P : ℕ → List Piece → Type 0) where
  abbrev Kept : ℕ → List (List Piece) → Type 0
  Kept k units =
      (kept : List (List Piece)) × (length kept ≡ length units) × AllZip IsInNameOrder kept units × ((i j : ℕ) (ks : List Piece) → j ≡ i + k → slice_get kept i ≡ Some ks → P j ks)

  all_kept : (k : ℕ) (units : List (List Piece)) → ((i j : ℕ) (unit : List Piece) → j ≡ i + k → slice_get units i ≡ Some unit → (ks : List Piece) × P j ks × IsInNameOrder ks unit) → Kept k units
  all_kept k [] each = ([], refl, tt, λ i j ks e here. absurd (cc here))
  all_kept k (unit ∷ units) each =
      let first = each 0 k unit (omega arith) refl in
      let rest = all_kept (suc k) units (λ i j u e here. each (suc i) j u (omega (arith, e)) here) in
      (first.0 ∷ rest.0, ap suc rest.1, (first.2, rest.2), placed (first.0) first.1 rest.0 rest.3)
    where
      placed : (ks : List Piece) → P k ks → (kept : List (List Piece)) → ((i j : ℕ) (ls : List Piece) → j ≡ i + suc k → slice_get kept i ≡ Some ls → P j ls)
          → (i j : ℕ) (ls : List Piece) → j ≡ i + k → slice_get (ks ∷ kept) i ≡ Some ls → P j ls
      placed ks here kept more zero j ls e at =
          let same : ks ≡ ls = cc at in
          let number : k ≡ j = omega (arith, e) in
          subst (λ (l : List Piece). P j l) same (subst (λ (n : ℕ). P n ks) number here)
      placed ks here kept more (suc i) j ls e at = more i j ls (omega (arith, e)) at

part_defines : (parts : List (List GlobalValue)) (k : ℕ) → All (All IsDefinition) parts → All IsDefinition (slice_index_or parts k [])
part_defines [] k defines = all_of IsDefinition [] (λ g s. absurd (cc s.1))
part_defines (part ∷ parts) zero defines = All-head (All IsDefinition) part parts defines
part_defines (part ∷ parts) (suc k) defines = part_defines parts k (All-tail (All IsDefinition) part parts defines)

module _ (interface : MadeHasInterface) (exports : List (List ℕ)) (limit : ℕ) (symbols : List Symbol) (suffixes : List (List ℕ)) (imports promoted : List (List ℕ)) (parts : List (List GlobalValue))
    (defines : All (All IsDefinition) parts) (units : List (List Piece)) (are : AreUnits exports limit symbols suffixes imports promoted parts units) where
  abbrev IsKept : ℕ → List Piece → Type 0
  IsKept k kept = IsCompiled exports limit (joined parts) symbols suffixes imports promoted k (slice_index_or parts k []) kept

  each_kept : (i j : ℕ) (unit : List Piece) → j ≡ i + 0 → slice_get units i ≡ Some unit → (ks : List Piece) × IsKept j ks × IsInNameOrder ks unit
  each_kept i j unit e here =
      let number : i ≡ j = omega (arith, e) in
      let u = are.each i unit here in
      subst (λ (n : ℕ). (ks : List Piece) × IsKept n ks × IsInNameOrder ks unit) number
      (kept_of interface exports limit (joined parts) symbols suffixes (slice_index_or imports i []) (slice_index_or promoted i []) (slice_index_or parts i []) u.task u.is_task (part_defines parts i defines) unit u.made)

  pub kept_printed : (kept : List (List Piece)) × ArePrinted exports limit (joined parts) symbols suffixes imports promoted parts kept × AllZip IsInNameOrder kept units
  kept_printed =
      let k = all_kept IsKept 0 units each_kept in (
        k.0,
        printed_of exports limit (joined parts) symbols suffixes imports promoted parts k.0 (k.1 ∙ are.count) (λ i ks here. k.3 i i ks (omega arith) here),
        k.2,
      )
