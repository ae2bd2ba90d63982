-- What is read again has a printed form (LangRef, "Identifiers").
use Rattle.std.proofs.Common.{◌≡◌, ℕ, suc, Option, Some, None, List, [], ◌∷◌, ◌++◌, map, refl, sym, subst}
use Rattle.std.specs.List.{AllByRecursion as Each}
use Rattle.std.specs.Prelude.{All}
use Rattle.std.proofs.lemmas.List.Elements.{All-from_recursion}
use Rattle.ir_parse.specs.Modules.{FURTHER_PARAMETERS}
use Rattle.ir_tree.specs.Forms.{Form}
use Rattle.ir_tree.specs.Initials.{Initial, Initials, plain, zeros, bytes, elements, members, no_initials, initial}
use Rattle.ir_tree.specs.Items.{Item, phi_item, line_item, end_item, items, items_from, block_items, lines_from, operands, reads, phi_reads, end_reads, taken_as}
use Rattle.ir_tree.specs.Wholes.{initial_operands, all_operands, init_operands}
use Rattle.ir_tree.specs.declared.block.Block.{Block}
use Rattle.ir_tree.specs.declared.block.Terminator.{Terminator}
use Rattle.ir_tree.specs.declared.block.Terminator.TheVariants.{Return, Jump, Branch, Switch, Unreachable}
use Rattle.ir_tree.specs.declared.function.Function.{Function}
use Rattle.ir_tree.specs.declared.instr.Incoming.{Incoming}
use Rattle.ir_tree.specs.declared.instr.Instr.{Instr}
use Rattle.ir_tree.specs.declared.instr.Instr.TheVariants.{Binary, Icmp, Cast, Select, Freeze, Alloca, Load, Store, Address, Call, Phi}
use Rattle.ir_tree.specs.declared.instr.Line.{Line}
use Rattle.ir_tree.specs.declared.instr.Phi as phis
use Rattle.ir_tree.specs.declared.module.GlobalValue.{GlobalValue}
use Rattle.ir_tree.specs.declared.module.GlobalValue.TheVariants as globals
use Rattle.ir_tree.specs.declared.module.Module.{Module}
use Rattle.ir_tree.specs.declared.operand.Argument.{Argument}
use Rattle.ir_tree.specs.declared.operand.Operand.{Operand}
use Rattle.ir_tree.specs.declared.operand.Operand.TheVariants.{Local, Number, Null, Poison, Symbol}
use Rattle.ir_tree.specs.declared.operand.Reg.{Reg}
use Rattle.ir_tree.specs.declared.operand.Reg.TheVariants.{Int, Ptr}
use Rattle.ir_round_trip.specs.Bodies.{phi_as_line}
use Rattle.ir_round_trip.specs.ModulesReadable.{FunctionReadable, GlobalReadable}
use Rattle.ir_round_trip.specs.Readable.{InstructionReadable, LineReadable, BlockReadable, BodyReadable}
use Rattle.ir_round_trip.specs.VariablesReadable.{ConstantReadable, InitialReadable, InitialsReadable, InitReadable}
use Rattle.ir_round_trip.specs.PartsReadable.{OperandReadable, ArgumentReadable, IncomingReadable, TerminatorReadable}
use Rattle.ir_round_trip.specs.Printable.{OperandPrintable, FunctionPrintable, GlobalPrintable, IsPrintable}

-- ---- operands

operand_printable : (reg : Reg) (x : Operand) → OperandReadable reg x → OperandPrintable x
operand_printable reg (Local n) h = tt
operand_printable reg (Number w bits) h = tt
operand_printable reg Null h = tt
operand_printable reg (Poison r) h = tt
operand_printable reg (Symbol symbol offset) h = h.name

abbrev AllPrintable : List Argument → Type 0
AllPrintable = Each (λ a. OperandPrintable a.operand)

both_printable : (xs ys : List Argument) → AllPrintable xs → AllPrintable ys → AllPrintable (xs ++ ys)
both_printable [] ys p q = q
both_printable (x ∷ xs) ys p q = (p.0, both_printable xs ys p.1 q)

arguments_printable : (as' : List Argument) → Each ArgumentReadable as' → AllPrintable as'
arguments_printable [] h = tt
arguments_printable (a ∷ as') h = (operand_printable a.reg a.operand h.0.1, arguments_printable as' h.1)

entries_printable : (reg : Reg) (is : List Incoming) → Each (IncomingReadable reg) is → AllPrintable (taken_as reg is)
entries_printable reg [] h = tt
entries_printable reg (i ∷ is) h = (operand_printable reg i.value h.0.0, entries_printable reg is h.1)

-- ---- items

line_printable : (i : Instr) → InstructionReadable i → AllPrintable (reads i ++ phi_reads i)
line_printable (Binary op flags w x y) h = (operand_printable (Int w) x h.2, (operand_printable (Int w) y h.3, tt))
line_printable (Icmp predicate reg x y) h = (operand_printable reg x h.1, (operand_printable reg y h.2, tt))
line_printable (Cast op from x to) h = (operand_printable from x h.1, tt)
line_printable (Select c x y) h = (operand_printable (Int 1) c h.0, (operand_printable x.reg x.operand h.1.1, (operand_printable y.reg y.operand h.2.1, tt)))
line_printable (Freeze reg x) h = (operand_printable reg x h.1, tt)
line_printable (Alloca shape align) h = tt
line_printable (Load reg address align) h = (operand_printable Ptr address h.1, tt)
line_printable (Store reg x address align) h = (operand_printable reg x h.1, (operand_printable Ptr address h.2, tt))
line_printable (Address inbounds shape base indices) h = (operand_printable Ptr base h.1, both_printable indices [] (arguments_printable indices h.2) tt)
line_printable (Call result callee arguments) h = (operand_printable Ptr callee h.1, both_printable arguments [] (arguments_printable arguments h.2) tt)
line_printable (Phi reg []) h = absurd h.1
line_printable (Phi reg (i ∷ is)) h = entries_printable reg (i ∷ is) h.1

end_printable : (t : Terminator) → TerminatorReadable t → AllPrintable (end_reads t)
end_printable (Return None) h = tt
end_printable (Return (Some a)) h = (operand_printable a.reg a.operand h.1, tt)
end_printable (Jump n) h = tt
end_printable (Branch c x y) h = (operand_printable (Int 1) c h.0, tt)
end_printable (Switch w x default cases) h = (operand_printable (Int w) x h.1, tt)
end_printable Unreachable h = tt

abbrev ItemPrintable : Item → Type 0
ItemPrintable i = All (λ a. OperandPrintable a.operand) (operands i)

as_all : (i : Item) → AllPrintable (operands i) → ItemPrintable i
as_all i h = All-from_recursion (λ a. OperandPrintable a.operand) (operands i) h

lines_printable : (b k : ℕ) (ls : List Line) → Each LineReadable ls → (rest : List Item) → Each ItemPrintable rest → Each ItemPrintable (lines_from b k ls ++ rest)
lines_printable b k [] h rest r = r
lines_printable b k (l ∷ ls) h rest r = (as_all (line_item b k l) (line_printable l.instr h.0.0), lines_printable b (suc k) ls h.1 rest r)

phi_printable : (b : ℕ) (p : phis.Phi) → LineReadable (phi_as_line p) → ItemPrintable (phi_item b p)
phi_printable b p h = as_all (phi_item b p) (line_printable (Phi p.reg p.incoming) h.0)

block_printable : (b : ℕ) (ps : List phis.Phi) (ls : List Line) (t : Terminator) → Each LineReadable (map phi_as_line ps ++ ls) → TerminatorReadable t → Each ItemPrintable (map (phi_item b) ps ++ (lines_from b 0 ls ++ end_item b t ∷ []))
block_printable b [] ls t h e = lines_printable b 0 ls h (end_item b t ∷ []) (as_all (end_item b t) (end_printable t e), tt)
block_printable b (p ∷ ps) ls t h e = (phi_printable b p h.0, block_printable b ps ls t h.1 e)

with_items : (xs ys : List Item) → Each ItemPrintable xs → Each ItemPrintable ys → Each ItemPrintable (xs ++ ys)
with_items [] ys p q = q
with_items (x ∷ xs) ys p q = (p.0, with_items xs ys p.1 q)

blocks_printable : (k : ℕ) (bs : List Block) → Each BlockReadable bs → Each ItemPrintable (items_from k bs)
blocks_printable k [] h = tt
blocks_printable k (b ∷ bs) h = with_items (block_items k b) (items_from (suc k) bs) (block_printable k b.phis b.lines b.end h.0.lines h.0.end) (blocks_printable (suc k) bs h.1)

-- ---- functions

body_readable : (bs : List Block) → BodyReadable bs → Each BlockReadable bs
body_readable [] h = absurd h
body_readable (b ∷ bs) h = h

function_printable : (room : ℕ) (f : Function) (bs : List Block) → f.blocks ≡ bs → FunctionReadable room bs f → FunctionPrintable f
function_printable room f [] e h = record { name = h.name; operands = All-from_recursion ItemPrintable (items f) (subst (λ (bs : List Block). Each ItemPrintable (items_from 0 bs)) (sym e) tt) }
function_printable room f (b ∷ bs) e h = record { name = h.head.name; operands = All-from_recursion ItemPrintable (items f) (blocks_printable 0 f.blocks (body_readable f.blocks h.body)) }

-- ---- variables

constant_printable : (reg : Reg) (x : Operand) → ConstantReadable reg x → OperandPrintable x
constant_printable reg (Local n) h = tt
constant_printable reg (Number w bits) h = tt
constant_printable reg Null h = tt
constant_printable reg (Poison r) h = tt
constant_printable reg (Symbol symbol offset) h = h.name

with_operands : (xs ys : List Operand) → Each OperandPrintable xs → Each OperandPrintable ys → Each OperandPrintable (xs ++ ys)
with_operands [] ys p q = q
with_operands (x ∷ xs) ys p q = (p.0, with_operands xs ys p.1 q)

mutual
  initial_printable : (f : Form) (v : Initial) → InitialReadable f v → Each OperandPrintable (initial_operands v)
  initial_printable f (plain x) h = (constant_printable _ x h, tt)
  initial_printable f zeros h = tt
  initial_printable f (bytes text) h = tt
  initial_printable f (elements vs) h = initials_printable vs h
  initial_printable f (members packed vs) h = initials_printable vs h

  initials_printable : (vs : Initials) → InitialsReadable vs → Each OperandPrintable (all_operands vs)
  initials_printable no_initials h = tt
  initials_printable (initial f v vs) h = with_operands (initial_operands v) (all_operands vs) (initial_printable f v h.1) (initials_printable vs h.2)

init_printable : (f : Form) (init : Option Initial) → InitReadable f init → Each OperandPrintable (init_operands init)
init_printable f None h = tt
init_printable f (Some v) h = initial_printable f v h

-- ---- modules

global_printable : (room : ℕ) (g : GlobalValue) → GlobalReadable room g → GlobalPrintable g
global_printable room (globals.Variable v) h = record { name = h.name; operands = All-from_recursion OperandPrintable (init_operands v.init) (init_printable v.shape v.init h.init) }
global_printable room (globals.Function f) h = function_printable room f f.blocks refl h

globals_printable : (room : ℕ) (gs : List GlobalValue) → Each (GlobalReadable room) gs → Each GlobalPrintable gs
globals_printable room [] h = tt
globals_printable room (g ∷ gs) h = (global_printable room g h.0, globals_printable room gs h.1)

pub module_printable : (m : Module) → Each (GlobalReadable FURTHER_PARAMETERS) m.globals → IsPrintable m
module_printable m h = All-from_recursion GlobalPrintable m.globals (globals_printable FURTHER_PARAMETERS m.globals h)
