-- Soundness: the eight rules that a formed function keeps (LangRef, "Well-Formedness", "phi Instruction", "getelementptr Instruction").
use Rattle.std.specs.Prelude.{◌≡◌, ℕ, zero, suc, ◌<◌, List, [], ◌∷◌, ◌++◌, map, slice_get, All, count_by, nat_eq, if◌then◌else◌, Option, Some, None, option_map, filter_map, flat_map}
use Rattle.ir_tree.specs.Forms.{Form, int, pointer, array, structure, list_of}
use Rattle.ir_tree.specs.Flow.{edges, successors, AvailableAt, AvailableAtEnd}
use Rattle.ir_tree.specs.Formed.{Formed}
use Rattle.ir_tree.specs.Items.{Item, phi_item, line_item, end_item, items, typed, reads, end_reads, operands, entries}
use Rattle.ir_tree.specs.declared.block.Block.{Block}
use Rattle.ir_tree.specs.declared.block.Case.{Case}
use Rattle.ir_tree.specs.declared.block.Terminator.{Terminator}
use Rattle.ir_tree.specs.declared.block.Terminator.TheVariants.{Return, Switch}
use Rattle.ir_tree.specs.declared.function.Function.{Function}
use Rattle.ir_tree.specs.declared.instr.CastOp.{CastOp}
use Rattle.ir_tree.specs.declared.instr.CastOp.TheVariants.{Zext, Sext, Trunc}
use Rattle.ir_tree.specs.declared.instr.Incoming.{Incoming}
use Rattle.ir_tree.specs.declared.instr.Instr.{Instr}
use Rattle.ir_tree.specs.declared.instr.Instr.TheVariants as kind
use Rattle.ir_tree.specs.declared.instr.Line.{Line}
use Rattle.ir_tree.specs.declared.instr.Predicate.{Predicate}
use Rattle.ir_tree.specs.declared.instr.Predicate.TheVariants.{Sgt, Sge, Slt, Sle}
use Rattle.ir_tree.specs.declared.operand.Argument.{Argument}
use Rattle.ir_tree.specs.declared.operand.Operand.{Operand}
use Rattle.ir_tree.specs.declared.operand.Operand.TheVariants as operand
use Rattle.ir_tree.specs.declared.operand.Reg.{Reg}
use Rattle.ir_tree.specs.declared.operand.Reg.TheVariants.{Int, Ptr}
use Rattle.ir_tree.specs.declared.rule.Rule.{Rule}
use Rattle.ir_tree.specs.declared.rule.Rule.TheVariants.{TypeMismatch, NotAvailable, PhiEdges, PhiPlace, EntryBranch, Index, Cast, CaseTwice}

-- ---- types of locals and operands

-- the type of what an instruction gives; a store and a call of `void` give nothing
abbrev pub result_type : Instr → Option Reg
result_type (kind.Binary op flags width left right) = Some (Int width)
result_type (kind.Icmp predicate reg left right) = Some (Int 1)
result_type (kind.Cast op from value to) = Some to
result_type (kind.Select condition if_true if_false) = Some if_true.reg
result_type (kind.Freeze reg value) = Some reg
result_type (kind.Alloca shape align) = Some Ptr
result_type (kind.Load reg address align) = Some reg
result_type (kind.Store reg value address align) = None
result_type (kind.Address inbounds shape base indices) = Some Ptr
result_type (kind.Call result callee arguments) = result
result_type (kind.Phi reg incoming) = Some reg

-- a local with its type, which the name of a call without result lacks
abbrev pub Typing : Type 0
Typing = ℕ × Option Reg

abbrev pub line_typing : Line → Option Typing
line_typing l = option_map (λ x. (x, result_type l.instr)) l.local

abbrev pub block_typings : Block → List Typing
block_typings b = map (λ p. (p.local, Some p.reg)) b.phis ++ filter_map line_typing b.lines

-- the locals of a function with their types, in the order of the text
abbrev pub typings : Function → List Typing
typings f = map (λ p. (p.local, Some p.reg)) f.params ++ flat_map block_typings f.blocks

abbrev pub typing : List Typing → ℕ → Option Reg
typing [] x = None
typing (t ∷ ts) x = if nat_eq t.0 x then t.1 else typing ts x

-- the type of an operand; null and symbols are pointers, and the truth values are numbers of one bit
abbrev pub type_of : Function → Operand → Option Reg
type_of f (operand.Local x) = typing (typings f) x
type_of f (operand.Number w bits) = Some (Int w)
type_of f operand.Null = Some Ptr
type_of f (operand.Poison reg) = Some reg
type_of f (operand.Symbol symbol offset) = Some Ptr

-- ---- 1: types

abbrev pub HasType : Function → Argument → Type 0
HasType f a = type_of f a.operand ≡ Some a.reg

-- the arms of a `select` have one type; a call without result has no name
abbrev pub LineTypes : Option ℕ → Instr → Type 0
LineTypes local (kind.Select condition if_true if_false) = if_true.reg ≡ if_false.reg
LineTypes local (kind.Call None callee arguments) = local ≡ None
LineTypes local _ = Unit {0}

abbrev pub reg_of : Option Argument → Option Reg
reg_of None = None
reg_of (Some a) = Some a.reg

-- a case has the type of its switch
abbrev pub CaseHas : ℕ → Case → Type 0
CaseHas width c = (c.reg ≡ Int width) × (c.width ≡ width)

-- a function returns what it says that it returns
abbrev pub EndTypes : Function → Terminator → Type 0
EndTypes f (Return argument) = reg_of argument ≡ f.result
EndTypes f (Switch width value default cases) = All (CaseHas width) cases
EndTypes f _ = Unit {0}

abbrev pub KindTypes : Function → Item → Type 0
KindTypes f (phi_item b phi) = Unit {0}
KindTypes f (line_item b k l) = LineTypes l.local l.instr
KindTypes f (end_item b t) = EndTypes f t

-- ---- 2: availability

-- the place of the block of this number
abbrev pub place : List Block → ℕ → ℕ
place [] n = zero
place (b ∷ bs) n = if nat_eq b.number n then zero else suc (place bs n)

-- an operand that is no local is always there
abbrev pub IsThere : Function → ℕ → ℕ → Operand → Type 0
IsThere f b k (operand.Local x) = AvailableAt f b k x
IsThere f b k _ = Unit {0}

abbrev pub IsThereAtEnd : Function → ℕ → Operand → Type 0
IsThereAtEnd f b (operand.Local x) = AvailableAtEnd f b x
IsThereAtEnd f b _ = Unit {0}

-- what an item reads at its own point
abbrev pub ReadsThere : Function → Item → Type 0
ReadsThere f (phi_item b phi) = Unit {0}
ReadsThere f (line_item b k l) = All (λ a. IsThere f b k a.operand) (reads l.instr)
ReadsThere f (end_item b t) = All (λ a. IsThereAtEnd f b a.operand) (end_reads t)

-- what a phi takes, at the ends of the predecessors
abbrev pub EntriesThere : Function → Item → Type 0
EntriesThere f item = All (λ e. IsThereAtEnd f (place f.blocks e.from) e.value) (entries item)

-- ---- 3 and 4: phis

-- as many entries for each block as there are edges from it, and equal ones for one block
pub record OnEdges (f : Function) (b : ℕ) (es : List Incoming) : Type 0 where
  pub each : (p : ℕ) → count_by (λ e. nat_eq (place f.blocks e.from) p) es ≡ count_by (λ q. nat_eq q p) (edges f b)
  pub equal : (i j : ℕ) (e d : Incoming) → slice_get es i ≡ Some e → slice_get es j ≡ Some d → e.from ≡ d.from → e.value ≡ d.value

abbrev pub LineOnEdges : Function → ℕ → Instr → Type 0
LineOnEdges f b (kind.Phi reg incoming) = OnEdges f b incoming
LineOnEdges f b _ = Unit {0}

abbrev pub HasEdges : Function → Item → Type 0
HasEdges f (phi_item b phi) = OnEdges f b phi.incoming
HasEdges f (line_item b k l) = LineOnEdges f b l.instr
HasEdges f (end_item b t) = Unit {0}

abbrev pub IsNoPhi : Instr → Type 0
IsNoPhi (kind.Phi reg incoming) = ⊥
IsNoPhi _ = Unit {0}

-- a phi among a block's lines stands behind another instruction
abbrev pub StandsRight : Item → Type 0
StandsRight (phi_item b phi) = b ≡ 0 → ⊥
StandsRight (line_item b k l) = IsNoPhi l.instr
StandsRight (end_item b t) = Unit {0}

-- ---- 5: edges to the entry

abbrev pub LeavesEntry : Function → Item → Type 0
LeavesEntry f (end_item b t) = All (λ n. place f.blocks n ≡ 0 → ⊥) (successors t)
LeavesEntry f _ = Unit {0}

-- ---- 6: indices

abbrev pub IsInteger : Reg → Type 0
IsInteger (Int w) = Unit {0}
IsInteger Ptr = ⊥

-- the indices lead from a shape into its parts; the index of a struct's part is a constant `i32`
abbrev pub Follow : Form → List Argument → Type 0
Follow f [] = Unit {0}
Follow (int w) (a ∷ more) = ⊥
Follow pointer (a ∷ more) = ⊥
Follow (array n of) (a ∷ more) = IsInteger a.reg × Follow of more
Follow (structure packed parts) (a ∷ more) = (k : ℕ) × (f : Form) × (a ≡ typed (Int 32) (operand.Number 32 k)) × (slice_get (list_of parts) k ≡ Some f) × Follow f more

-- the first index counts whole shapes
abbrev pub IndicesFollow : Form → List Argument → Type 0
IndicesFollow f [] = Unit {0}
IndicesFollow f (a ∷ more) = IsInteger a.reg × Follow f more

abbrev pub LineFollows : Instr → Type 0
LineFollows (kind.Address inbounds shape base indices) = IndicesFollow shape indices
LineFollows _ = Unit {0}

abbrev pub Follows : Item → Type 0
Follows (line_item b k l) = LineFollows l.instr
Follows _ = Unit {0}

-- ---- 7: casts

-- `zext` and `sext` widen integers, `trunc` narrows them
abbrev pub CastFits : CastOp → Reg → Reg → Type 0
CastFits Zext (Int v) (Int w) = v < w
CastFits Sext (Int v) (Int w) = v < w
CastFits Trunc (Int v) (Int w) = w < v
CastFits _ _ _ = ⊥

abbrev pub ComparesRight : Predicate → Reg → Type 0
ComparesRight Sgt reg = IsInteger reg
ComparesRight Sge reg = IsInteger reg
ComparesRight Slt reg = IsInteger reg
ComparesRight Sle reg = IsInteger reg
ComparesRight _ reg = Unit {0}

abbrev pub LineCasts : Instr → Type 0
LineCasts (kind.Cast op from value to) = CastFits op from to
LineCasts (kind.Freeze reg value) = IsInteger reg
LineCasts (kind.Icmp predicate reg left right) = ComparesRight predicate reg
LineCasts _ = Unit {0}

abbrev pub CastsRight : Item → Type 0
CastsRight (line_item b k l) = LineCasts l.instr
CastsRight _ = Unit {0}

-- ---- 8: cases

-- no two cases have one value
abbrev pub CasesDiffer : List Case → Type 0
CasesDiffer cs = (i j : ℕ) (c d : Case) → slice_get cs i ≡ Some c → slice_get cs j ≡ Some d → c.bits ≡ d.bits → i ≡ j

abbrev pub EndDiffers : Terminator → Type 0
EndDiffers (Switch width value default cases) = CasesDiffer cases
EndDiffers _ = Unit {0}

abbrev pub DiffersRight : Item → Type 0
DiffersRight (end_item b t) = EndDiffers t
DiffersRight _ = Unit {0}

-- ---- soundness

-- the item keeps the rule
abbrev pub Keeps : Function → Rule → Item → Type 0
Keeps f TypeMismatch item = All (HasType f) (operands item) × KindTypes f item
Keeps f NotAvailable item = ReadsThere f item × EntriesThere f item
Keeps f PhiEdges item = HasEdges f item
Keeps f PhiPlace item = StandsRight item
Keeps f EntryBranch item = LeavesEntry f item
Keeps f Index item = Follows item
Keeps f Cast item = CastsRight item
Keeps f CaseTwice item = DiffersRight item

pub record Sound (f : Function) : Type 0 where
  pub formed : Formed f
  pub rules : (rule : Rule) → All (Keeps f rule) (items f)

-- the rule is broken on this line by an item of the function, whose items stand on these lines
abbrev pub Breaks : Function → List ℕ → Rule → ℕ → Type 0
Breaks f lines rule line = (i : ℕ) × (item : Item) × (slice_get (items f) i ≡ Some item) × (slice_get lines i ≡ Some line) × (Keeps f rule item → ⊥)
