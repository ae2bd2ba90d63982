-- Each entry of a printed module is read as an item that is kept (LangRef, "Module Structure").
use Rattle.std.proofs.Common.{◌≡◌, ℕ, suc, ◌-◌, Option, List, [], ◌∷◌, codes, refl, sym, ap, subst}
use Rattle.ir_parse.specs.ItemForms as read
use Rattle.ir_parse.specs.ItemForms.{ParsedItem, unnamed, beside, naming, at_place, other, named, piece}
use Rattle.ir_lex.specs.Pieces.{Piece}
use Rattle.ir_print.specs.Functions as functions
use Rattle.ir_print.specs.Modules as printed
use Rattle.ir_parse_heads.specs.Targets.{target_line}
use Rattle.ir_parse_parts.specs.declared.places.Before.{Before}
use Rattle.ir_parse_parts.specs.declared.places.Before.TheVariants as befores
use Rattle.ir_parse_parts.specs.declared.places.Position.{Position}
use Rattle.ir_parse_parts.specs.declared.raw.Item.{Item}
use Rattle.ir_tree.specs.declared.block.Block.{Block}
use Rattle.ir_tree.specs.declared.function.Function.{Function}
use Rattle.ir_tree.specs.declared.module.GlobalValue.{GlobalValue}
use Rattle.ir_tree.specs.declared.module.GlobalValue.TheVariants as globals
use Rattle.ir_parse_parts.specs.Forms.{Form, ◌>>=◌, gives}
use Rattle.ir_lex.specs.Tok.{Tok}
use Rattle.ir_round_trip.specs.Modules.{Entry, layout, triple, global_value, IsFunctionOf, IsGlobalItem, IsItem}
use Rattle.ir_round_trip.specs.ModulesReadable.{FunctionReadable, GlobalReadable, LayoutReadable}
use Rattle.ir_round_trip.specs.Printed.{IsSomeWith}
use Rattle.ir_round_trip.proofs.Declarations.{declaration_read}
use Rattle.ir_round_trip.proofs.Definitions.{definition_read}
use Rattle.ir_round_trip.proofs.PrintedVariables.{variable_read}
use Rattle.ir_round_trip.specs.Reads.{Parses}
use Rattle.ir_round_trip.proofs.Composed.{last, nothing, left, right}
use Rattle.ir_round_trip.proofs.Targets.{layout_read, triple_read}

-- what stands before the item behind a global
abbrev pub function_left : List Block → Before
function_left [] = befores.Declaration
function_left (b ∷ bs) = befores.Item

abbrev pub before_next : Entry → Before
before_next (layout text) = befores.Item
before_next (triple text) = befores.Item
before_next (global_value (globals.Variable v)) = befores.Item
before_next (global_value (globals.Function f)) = function_left f.blocks

-- an item that is kept, and what stands before the next one
abbrev IsFound : (Item → Type 0) → Before → ParsedItem → Type 0
IsFound P before x = IsSomeWith P x.0 × (x.1 ≡ before)

kept_read : {g : Form Tok Item} {P : Item → Type 0} {ps : List Piece} → Parses g P ps → Parses (read.kept g) (IsFound P befores.Item) ps
unfolding read.kept
kept_read r = last r (λ i p. nothing ((i, refl, p), refl))

-- ---- globals

function_read : (room : ℕ) (f : Function) (bs : List Block) → FunctionReadable room bs f → Parses (naming room) (IsFound (IsFunctionOf bs f) (function_left bs)) (functions.by_blocks bs f)
function_read room f [] h = right _ (left _ (declaration_read room f h))
function_read room f (b ∷ bs) h = right _ (right _ (kept_read (definition_read room f h)))

global_read : (room : ℕ) (g : GlobalValue) → GlobalReadable room g → Parses (naming room) (IsFound (IsGlobalItem g) (before_next (global_value g))) (printed.global_value g)
global_read room (globals.Variable v) h = left _ (kept_read (variable_read v h))
global_read room (globals.Function f) h = function_read room f f.blocks h

-- ---- at a position

abbrev pub behind_entry : Entry → ℕ → Position
behind_entry e names = record { before = before_next e; names = names }

abbrev pub IsPlaced : Entry → ℕ → Option Item × Position → Type 0
IsPlaced e names x = IsSomeWith (IsItem e) x.0 × (x.1 ≡ behind_entry e names)

placed : {g : Form Tok ParsedItem} {ps : List Piece} (e : Entry) (names : ℕ) → Parses g (IsFound (IsItem e) (before_next e)) ps → Parses (g >>= λ x. gives (at_place names x)) (IsPlaced e names) ps
placed e names r = last r (λ x p. nothing (p.0, ap (λ (b : Before). record { before = b; names = names }) p.1))

pub global_at : (room names : ℕ) (before : Before) (g : GlobalValue) → GlobalReadable room g → Parses (piece room before (suc names)) (IsPlaced (global_value g) (suc names - 1)) (printed.global_value g)
unfolding piece named
global_at room names before g h = left _ (placed (global_value g) (suc names - 1) (global_read room g h))

-- a target line stands before all globals
target_at : (room names : ℕ) (e : Entry) {ps : List Piece} → before_next e ≡ befores.Item → Parses target_line (IsItem e) ps → Parses (piece room befores.Item names) (IsPlaced e names) ps
unfolding piece other beside unnamed
target_at room names e {ps} b r =
    right _ (placed e names (right _ (right _ (left _ (subst (λ (before : Before). Parses (read.kept target_line) (IsFound (IsItem e) before) ps) (sym b) (kept_read r))))))

pub layout_at : (room names : ℕ) (b : ℕ) (bs : List ℕ) → LayoutReadable (b ∷ bs) → Parses (piece room befores.Item names) (IsPlaced (layout (b ∷ bs)) names) (printed.target_line (codes "datalayout") (b ∷ bs))
layout_at room names b bs h = target_at room names (layout (b ∷ bs)) refl (layout_read (b ∷ bs) h.0 h.1)

pub triple_at : (room names : ℕ) (text : List ℕ) → Parses (piece room befores.Item names) (IsPlaced (triple text) names) (printed.target_line (codes "triple") text)
triple_at room names text = target_at room names (triple text) refl (triple_read text)
