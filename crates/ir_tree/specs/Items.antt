-- The phis, instructions and terminators of a function in the order of its text, and what each of them reads.
use Rattle.std.specs.Prelude.{ℕ, suc, List, [], ◌∷◌, ◌++◌, map, Option, Some, None}
use Rattle.ir_tree.specs.declared.block.Block.{Block}
use Rattle.ir_tree.specs.declared.block.Terminator.{Terminator}
use Rattle.ir_tree.specs.declared.block.Terminator.TheVariants.{Branch, Jump, Return, Switch, Unreachable}
use Rattle.ir_tree.specs.declared.function.Function.{Function}
use Rattle.ir_tree.specs.declared.instr.Incoming.{Incoming}
use Rattle.ir_tree.specs.declared.instr.Instr.{Instr}
use Rattle.ir_tree.specs.declared.instr.Instr.TheVariants as kind
use Rattle.ir_tree.specs.declared.instr.Line.{Line}
use Rattle.ir_tree.specs.declared.instr.Phi.{Phi}
use Rattle.ir_tree.specs.declared.operand.Argument.{Argument}
use Rattle.ir_tree.specs.declared.operand.Operand.{Operand}
use Rattle.ir_tree.specs.declared.operand.Reg.{Reg}
use Rattle.ir_tree.specs.declared.operand.Reg.TheVariants.{Int, Ptr}

-- ---- items

-- a phi, a line or the terminator of the block at a place; a line with its own place in the block
pub data Item : Type 0 where
  phi_item : (block : ℕ) (phi : Phi) → Item
  line_item : (block place : ℕ) (line : Line) → Item
  end_item : (block : ℕ) (terminator : Terminator) → Item

abbrev pub lines_from : ℕ → ℕ → List Line → List Item
lines_from b k [] = []
lines_from b k (l ∷ ls) = line_item b k l ∷ lines_from b (suc k) ls

abbrev pub block_items : ℕ → Block → List Item
block_items b block = map (phi_item b) block.phis ++ (lines_from b 0 block.lines ++ end_item b block.end ∷ [])

abbrev pub items_from : ℕ → List Block → List Item
items_from b [] = []
items_from b (block ∷ bs) = block_items b block ++ items_from (suc b) bs

-- the items of a function in the order of its text
abbrev pub items : Function → List Item
items f = items_from 0 f.blocks

-- ---- what they read

abbrev pub typed : Reg → Operand → Argument
typed reg operand = record { reg = reg; operand = operand }

-- what an instruction reads at its own point, with the types that are written or that it asks for
abbrev pub reads : Instr → List Argument
reads (kind.Binary op flags width left right) = typed (Int width) left ∷ typed (Int width) right ∷ []
reads (kind.Icmp predicate reg left right) = typed reg left ∷ typed reg right ∷ []
reads (kind.Cast op from value to) = typed from value ∷ []
reads (kind.Select condition if_true if_false) = typed (Int 1) condition ∷ if_true ∷ if_false ∷ []
reads (kind.Freeze reg value) = typed reg value ∷ []
reads (kind.Alloca shape align) = []
reads (kind.Load reg address align) = typed Ptr address ∷ []
reads (kind.Store reg value address align) = typed reg value ∷ typed Ptr address ∷ []
reads (kind.Address inbounds shape base indices) = typed Ptr base ∷ indices
reads (kind.Call result callee arguments) = typed Ptr callee ∷ arguments
reads (kind.Phi reg incoming) = []

abbrev pub answers : Option Argument → List Argument
answers None = []
answers (Some a) = a ∷ []

abbrev pub end_reads : Terminator → List Argument
end_reads (Return argument) = answers argument
end_reads (Jump target) = []
end_reads (Branch condition if_true if_false) = typed (Int 1) condition ∷ []
end_reads (Switch width value default cases) = typed (Int width) value ∷ []
end_reads Unreachable = []

-- what a phi takes on the edges into its block; it is read at the predecessors' ends
abbrev pub taken : Instr → List Incoming
taken (kind.Phi reg incoming) = incoming
taken _ = []

abbrev pub taken_as : Reg → List Incoming → List Argument
taken_as reg incoming = map (λ e. typed reg e.value) incoming

abbrev pub phi_reads : Instr → List Argument
phi_reads (kind.Phi reg incoming) = taken_as reg incoming
phi_reads _ = []

-- every operand of an item, with its type
abbrev pub operands : Item → List Argument
operands (phi_item b phi) = taken_as phi.reg phi.incoming
operands (line_item b k l) = reads l.instr ++ phi_reads l.instr
operands (end_item b t) = end_reads t

-- the entries of the phi that an item is
abbrev pub entries : Item → List Incoming
entries (phi_item b phi) = phi.incoming
entries (line_item b k l) = taken l.instr
entries (end_item b t) = []
