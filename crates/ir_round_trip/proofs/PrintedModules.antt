-- Whole modules are read: the entries of a printed module one behind another (LangRef, "Module Structure").
use Rattle.std.proofs.Common.{ℕ, zero, suc, ◌-◌, ◌≤◌, Option, List, [], ◌∷◌, ◌++◌, map, length, codes, refl, sym, subst, append-nil, arith}
use Rattle.std.specs.List.{fold, AllByRecursion as Each}
use Rattle.ir_parse.specs.ItemForms.{items, piece, anywhere, keep}
use Rattle.ir_parse.specs.Modules.{FURTHER_PARAMETERS, GLOBAL_NAMES, whole_module}
use Rattle.ir_lex.specs.Lexing.{AreTokens}
use Rattle.ir_lex.specs.Pieces.{Piece}
use Rattle.ir_lex.specs.Tok.{Tok}
use Rattle.ir_print.specs.Modules.{entries, module_text, target_lines, global_values}
use Rattle.ir_parse_parts.specs.declared.places.Before.{Before}
use Rattle.ir_parse_parts.specs.declared.places.Before.TheVariants as befores
use Rattle.ir_parse_parts.specs.declared.places.Position.{Position}
use Rattle.ir_parse_parts.specs.declared.raw.Item.{Item}
use Rattle.ir_tree.specs.declared.module.GlobalValue.{GlobalValue}
use Rattle.ir_tree.specs.declared.module.Module.{Module}
use Rattle.ir_parse_parts.specs.Chained.{Chain}
use Rattle.ir_parse_parts.specs.Forms as form
use Rattle.ir_parse_parts.specs.Forms.{Form}
use Rattle.ir_round_trip.specs.Modules.{Entry, layout, triple, global_value, target, IsItem, AreItems}
use Rattle.ir_round_trip.specs.ModulesReadable.{GlobalReadable, LayoutReadable, ModuleReadable}
use Rattle.ir_round_trip.proofs.Items.{before_next, behind_entry, IsPlaced, global_at, layout_at, triple_at}
use Rattle.ir_round_trip.proofs.Printable.{module_printable}
use Rattle.ir_round_trip.proofs.PartsModules.{module_cut}
use Rattle.ir_round_trip.specs.Texts.{line_after, tokens_before, tokens_in}
use Rattle.ir_round_trip.specs.PartsPrinted.{Paired}
use Rattle.ir_round_trip.specs.Reads.{Parses}
use Rattle.ir_round_trip.proofs.Kept.{Kept, kept_none, kept_more, kept}

-- ---- entries

-- on whatever line these entries begin
record ReadsAll {A : Type 0} (g : Form Tok A) (P : A → Type 0) (all : List (List Piece)) : Type 0 where
  value : (line : ℕ) → (a : A) × g (tokens_in line all) a × P a

abbrev pieces_from : ℕ → Position → Form Tok (List (Option Item))
pieces_from room = Chain anywhere (λ at. piece room at.before at.names)

module _ (room : ℕ) where
  no_entries : (at : Position) → ReadsAll (pieces_from room at) (Kept IsItem []) []
  no_entries at = record { value = λ line. ([], (refl, refl), kept_none IsItem) }

  one_more_entry : (before : Before) (names left : ℕ) (e : Entry) {es : List Entry} {entry : List Piece} {all : List (List Piece)}
      → Parses (piece room before names) (IsPlaced e left) entry → ReadsAll (pieces_from room (behind_entry e left)) (Kept IsItem es) all → ReadsAll (pieces_from room (record { before = before; names = names })) (Kept IsItem (e ∷ es)) (entry ∷ all)
  one_more_entry before names left e {es} {entry} {all} p q = record {
    value = λ line.
        let a = p.value [] line in
        let b = q.value (suc (line_after line entry)) in
        let here : List Tok = tokens_before [] line entry in
        (a.0.0 ∷ b.0, (here, tokens_in (suc (line_after line entry)) all, behind_entry e left, refl, subst (λ (to : Position). piece room before names here (a.0.0, to)) a.2.1 a.1, b.1), kept_more IsItem a.2.0 b.2);
  }

  globals_read : (before : Before) (names : ℕ) (gs : List GlobalValue) → length gs ≤ names → Each (GlobalReadable room) gs → ReadsAll (pieces_from room (record { before = before; names = names })) (Kept IsItem (map global_value gs)) (global_values gs)
  globals_read before names [] few h = no_entries (record { before = before; names = names })
  globals_read before zero (g ∷ gs) few h = absurd (omega (arith, few))
  globals_read before (suc names) (g ∷ gs) few h =
      one_more_entry before (suc names) (suc names - 1) (global_value g) (global_at room names before g h.0) (globals_read (before_next (global_value g)) (suc names - 1) gs (omega (arith, few)) h.1)

  abbrev ReadsFromStart : ℕ → List Entry → List (List Piece) → Type 0
  ReadsFromStart names es all = ReadsAll (pieces_from room (record { before = befores.Item; names = names })) (Kept IsItem es) all

  layouts_read : (names : ℕ) (text : List ℕ) → LayoutReadable text → {es : List Entry} {all : List (List Piece)} → ReadsFromStart names es all → ReadsFromStart names (target layout text ++ es) (target_lines (codes "datalayout") text ++ all)
  layouts_read names [] h r = r
  layouts_read names (b ∷ bs) h r = one_more_entry befores.Item names names (layout (b ∷ bs)) (layout_at room names b bs h) r

  triples_read : (names : ℕ) (text : List ℕ) → {es : List Entry} {all : List (List Piece)} → ReadsFromStart names es all → ReadsFromStart names (target triple text ++ es) (target_lines (codes "triple") text ++ all)
  triples_read names [] r = r
  triples_read names (b ∷ bs) r = one_more_entry befores.Item names names (triple (b ∷ bs)) (triple_at room names (b ∷ bs)) r

  all_kept : (names : ℕ) {es : List Entry} {all : List (List Piece)} → ReadsFromStart names es all → ReadsAll (items room names) (Paired IsItem es) all
  unfolding items form.◌>>=◌
  all_kept names {es} {all} r = record {
    value = λ line.
        let a = r.value line in
        let ts : List Tok = tokens_in line all in
        (fold keep [] a.0, (ts, [], a.0, sym (append-nil ts), a.1, (refl, refl)), kept IsItem keep (λ front i. refl) a.2);
  }

-- ---- modules

-- with so many global names at most
pub entries_read : (names : ℕ) (m : Module) → LayoutReadable m.datalayout → Each (GlobalReadable FURTHER_PARAMETERS) m.globals → length m.globals ≤ names → (line : ℕ)
    → (all : List Item) × items FURTHER_PARAMETERS names (tokens_in line (entries m)) all × AreItems m all
entries_read names m l globals few line =
    (all_kept FURTHER_PARAMETERS names (layouts_read FURTHER_PARAMETERS names m.datalayout l (triples_read FURTHER_PARAMETERS names m.triple (globals_read FURTHER_PARAMETERS befores.Item names m.globals few globals)))).value line

pub module_read : (m : Module) → ModuleReadable m → (line : ℕ) → (all : List Item) × whole_module (tokens_in line (entries m)) all × AreItems m all
unfolding whole_module
module_read m h line = entries_read GLOBAL_NAMES m h.layout h.globals h.few line

-- the text of a module is cut into tokens that spell the printed items
pub text_read : (m : Module) → ModuleReadable m → (ts : List Tok) × AreTokens (module_text m) ts × ((all : List Item) × whole_module ts all × AreItems m all)
text_read m h = (tokens_in 1 (entries m), module_cut m (module_printable m h.globals), module_read m h 1)
