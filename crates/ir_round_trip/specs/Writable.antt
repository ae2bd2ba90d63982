-- Items of functions whose names and numbers can be written, and items that are read again.
use Rattle.std.specs.Prelude.{All, List, [], ◌∷◌}
use Rattle.ir_tree.specs.Flow.{successors}
use Rattle.ir_tree.specs.Formed.{IsReg}
use Rattle.ir_tree.specs.Items.{Item, phi_item, line_item, end_item, operands}
use Rattle.ir_tree.specs.declared.instr.Incoming.{Incoming}
use Rattle.ir_tree.specs.declared.instr.Instr.{Instr}
use Rattle.ir_tree.specs.declared.instr.Instr.TheVariants.{Alloca, Address, Call, Phi}
use Rattle.ir_tree.specs.declared.operand.Operand.{Operand}
use Rattle.ir_tree.specs.declared.operand.Operand.TheVariants.{Local, Symbol}
use Rattle.ir_round_trip.specs.PartsReadable.{IsSmall, SymbolReadable, CountsReadable, EntriesReadable, InstrReadable, TerminatorReadable}

abbrev pub OperandWritable : Operand → Type 0
OperandWritable (Local n) = IsSmall n
OperandWritable (Symbol symbol offset) = SymbolReadable symbol.name offset
OperandWritable _ = Unit {0}

-- there is an entry, and blocks have small numbers
abbrev pub EntriesWritable : List Incoming → Type 0
EntriesWritable [] = ⊥
EntriesWritable (i ∷ is) = All (λ e. IsSmall e.from) (i ∷ is)

-- an instruction other than a call
abbrev pub InstrWritable : Instr → Type 0
InstrWritable (Alloca shape align) = CountsReadable shape
InstrWritable (Address inbounds shape base indices) = CountsReadable shape
InstrWritable (Call result callee arguments) = ⊥
InstrWritable (Phi reg edges) = EntriesWritable edges
InstrWritable _ = Unit {0}

abbrev pub KindWritable : Item → Type 0
KindWritable (phi_item b phi) = EntriesWritable phi.incoming
KindWritable (line_item b k l) = InstrWritable l.instr
KindWritable (end_item b t) = All IsSmall (successors t)

pub record ItemWritable (item : Item) : Type 0 where
  pub operands : All (λ a. OperandWritable a.operand) (operands item)
  pub kind : KindWritable item

abbrev pub ItemReadable : Item → Type 0
ItemReadable (phi_item b phi) = IsReg phi.reg × EntriesReadable phi.reg phi.incoming
ItemReadable (line_item b k l) = InstrReadable l.instr
ItemReadable (end_item b t) = TerminatorReadable t
