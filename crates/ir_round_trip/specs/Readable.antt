-- Lines, blocks and functions whose printed form is read again: their parts are such, names are numbers below 2^32, and
-- blocks and instructions are as many as the grammar takes (LangRef, "Functions").
use Rattle.std.specs.Prelude.{ℕ, suc, ◌≤◌, Option, Some, None, List, [], ◌∷◌, length}
use Rattle.std.specs.List.{AllByRecursion as Each}
use Rattle.ir_parse_bodies.specs.Blocks.{FURTHER_BLOCKS, INSTRUCTIONS}
use Rattle.ir_tree.specs.Formed.{IsResult}
use Rattle.ir_tree.specs.declared.block.Block.{Block}
use Rattle.ir_tree.specs.declared.function.Function.{Function}
use Rattle.ir_tree.specs.declared.instr.Instr.{Instr}
use Rattle.ir_tree.specs.declared.instr.Instr.TheVariants.{Store, Call}
use Rattle.ir_tree.specs.declared.instr.Line.{Line}
use Rattle.ir_tree.specs.declared.operand.Argument.{Argument}
use Rattle.ir_tree.specs.declared.operand.Operand.{Operand}
use Rattle.ir_tree.specs.declared.operand.Reg.{Reg}
use Rattle.ir_tree.specs.declared.operand.Reg.TheVariants.{Ptr}
use Rattle.ir_round_trip.specs.Bodies.{stated, instructions}
use Rattle.ir_round_trip.specs.PartsReadable.{IsSmall, OperandReadable, ArgumentReadable, InstrReadable, TerminatorReadable, HeadReadable}

-- ---- lines

abbrev pub CallReadable : Option Reg → Operand → List Argument → Type 0
CallReadable result callee arguments = IsResult result × OperandReadable Ptr callee × Each ArgumentReadable arguments

abbrev pub InstructionReadable : Instr → Type 0
InstructionReadable (Call result callee arguments) = CallReadable result callee arguments
InstructionReadable i = InstrReadable i

-- a store has no result
abbrev pub MayHaveName : Instr → Type 0
MayHaveName (Store reg value address align) = ⊥
MayHaveName i = Unit {0}

abbrev pub ResultReadable : Instr → Option ℕ → Type 0
ResultReadable i None = Unit {0}
ResultReadable i (Some n) = IsSmall n × MayHaveName i

abbrev pub LineReadable : Line → Type 0
LineReadable l = InstructionReadable l.instr × ResultReadable l.instr l.local

-- ---- blocks

pub record BlockReadable (b : Block) : Type 0 where
  pub number : IsSmall b.number
  pub lines : Each LineReadable (stated b)
  pub end : TerminatorReadable b.end

-- there is an entry
abbrev pub BodyReadable : List Block → Type 0
BodyReadable [] = ⊥
BodyReadable (b ∷ bs) = BlockReadable b × Each BlockReadable bs

-- ---- functions

-- a definition, with so many parameters at most behind the first
pub record DefinitionReadable (room : ℕ) (f : Function) : Type 0 where
  pub head : HeadReadable room f
  pub body : BodyReadable f.blocks
  pub few_blocks : length f.blocks ≤ suc FURTHER_BLOCKS
  pub few_instructions : instructions f.blocks ≤ INSTRUCTIONS
