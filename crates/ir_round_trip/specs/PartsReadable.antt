-- Operands, instructions and terminators whose printed form is read again: their parts are formed, a literal is of the type
-- that stands before it, names can be printed and aren't kept for LLVM itself, and numbers of locals and blocks are below
-- 2^32 (LangRef, "Identifiers", "Simple Constants").
use Rattle.std.specs.Prelude.{◌≡◌, ◌⊎◌, ℕ, ◌<◌, ◌^◌, Option, Some, None, List, [], ◌∷◌, ◌≤◌, suc, length}
use Rattle.std.specs.List.{AllByRecursion as Each}
use Rattle.ir_tree.specs.Formed.{IsWidth, IsReg, IsResult, IsScalar, IsShape, IsAlignment, FlagsFormed}
use Rattle.ir_tree.specs.Forms.{Form, Forms, int, pointer, array, structure, no_parts, part}
use Rattle.ir_tree.specs.declared.block.Case.{Case}
use Rattle.ir_tree.specs.declared.block.Terminator.{Terminator}
use Rattle.ir_tree.specs.declared.block.Terminator.TheVariants.{Return, Jump, Branch, Switch, Unreachable}
use Rattle.ir_tree.specs.declared.function.Function.{Function}
use Rattle.ir_tree.specs.declared.function.Param.{Param}
use Rattle.ir_tree.specs.declared.instr.Incoming.{Incoming}
use Rattle.ir_tree.specs.declared.instr.Instr.{Instr}
use Rattle.ir_tree.specs.declared.instr.Instr.TheVariants.{Binary, Icmp, Cast, Select, Freeze, Alloca, Load, Store, Address, Call, Phi}
use Rattle.ir_tree.specs.declared.operand.Argument.{Argument}
use Rattle.ir_tree.specs.declared.operand.Operand.{Operand}
use Rattle.ir_tree.specs.declared.operand.Operand.TheVariants.{Local, Number, Null, Poison, Symbol}
use Rattle.ir_tree.specs.declared.operand.Reg.{Reg}
use Rattle.ir_tree.specs.declared.operand.Reg.TheVariants.{Int, Ptr}
use Rattle.ir_round_trip.specs.Classes.{IsOrdinary}
use Rattle.ir_round_trip.specs.Printable.{IsName}

-- a name may be written by this number
abbrev pub IsSmall : ℕ → Type 0
IsSmall n = n < 4294967296

pub record SymbolReadable (symbol : List ℕ) (bytes : ℕ) : Type 0 where
  pub name : IsName symbol
  pub ordinary : IsOrdinary symbol
  pub offset : bytes < 2 ^ 64

-- a number of one bit is a word, and of any other width a decimal, which is of the width that stands before it
pub record NumberReadable (reg : Reg) (w n : ℕ) : Type 0 where
  pub width : IsWidth w
  pub bits : n < 2 ^ w
  pub typed : (w ≡ 1) ⊎ (reg ≡ Int w)

-- an operand behind this type
abbrev pub OperandReadable : Reg → Operand → Type 0
OperandReadable reg (Local n) = IsSmall n
OperandReadable reg (Number width bits) = NumberReadable reg width bits
OperandReadable reg Null = Unit {0}
OperandReadable reg (Poison r) = r ≡ reg
OperandReadable reg (Symbol symbol offset) = SymbolReadable symbol.name offset

-- counts of arrays are below 2^64
abbrev mutual
  pub CountsReadable : Form → Type 0
  CountsReadable (int w) = Unit {0}
  CountsReadable pointer = Unit {0}
  CountsReadable (array n of) = (n < 2 ^ 64) × CountsReadable of
  CountsReadable (structure packed parts) = AllCountsReadable parts

  pub AllCountsReadable : Forms → Type 0
  AllCountsReadable no_parts = Unit {0}
  AllCountsReadable (part f fs) = CountsReadable f × AllCountsReadable fs

pub record ShapeReadable (f : Form) : Type 0 where
  pub shape : IsShape f
  pub counts : CountsReadable f

abbrev pub ArgumentReadable : Argument → Type 0
ArgumentReadable a = IsReg a.reg × OperandReadable a.reg a.operand

abbrev pub IncomingReadable : Reg → Incoming → Type 0
IncomingReadable reg i = OperandReadable reg i.value × IsSmall i.from

-- a case's number agrees with its type
pub record CaseReadable (c : Case) : Type 0 where
  pub reg : IsReg c.reg
  pub number : NumberReadable c.reg c.width c.bits
  pub target : IsSmall c.target

abbrev pub AnswerReadable : Option Argument → Type 0
AnswerReadable None = Unit {0}
AnswerReadable (Some a) = ArgumentReadable a

abbrev pub TerminatorReadable : Terminator → Type 0
TerminatorReadable (Return a) = AnswerReadable a
TerminatorReadable (Jump n) = IsSmall n
TerminatorReadable (Branch condition if_true if_false) = OperandReadable (Int 1) condition × IsSmall if_true × IsSmall if_false
TerminatorReadable (Switch w value default cases) = IsWidth w × OperandReadable (Int w) value × IsSmall default × Each CaseReadable cases
TerminatorReadable Unreachable = Unit {0}

-- a phi has an entry at least
abbrev pub EntriesReadable : Reg → List Incoming → Type 0
EntriesReadable reg [] = ⊥
EntriesReadable reg (i ∷ is) = IncomingReadable reg i × Each (IncomingReadable reg) is

-- an instruction other than a call
abbrev pub InstrReadable : Instr → Type 0
InstrReadable (Binary op flags w left right) = FlagsFormed op flags × IsWidth w × OperandReadable (Int w) left × OperandReadable (Int w) right
InstrReadable (Icmp predicate reg left right) = IsReg reg × OperandReadable reg left × OperandReadable reg right
InstrReadable (Cast op from value to) = IsReg from × OperandReadable from value × IsReg to
InstrReadable (Select condition if_true if_false) = OperandReadable (Int 1) condition × ArgumentReadable if_true × ArgumentReadable if_false
InstrReadable (Freeze reg value) = IsReg reg × OperandReadable reg value
InstrReadable (Alloca shape align) = ShapeReadable shape × IsAlignment align
InstrReadable (Load reg address align) = IsScalar reg × OperandReadable Ptr address × IsAlignment align
InstrReadable (Store reg value address align) = IsScalar reg × OperandReadable reg value × OperandReadable Ptr address × IsAlignment align
InstrReadable (Address inbounds shape base indices) = ShapeReadable shape × OperandReadable Ptr base × Each ArgumentReadable indices
InstrReadable (Call result callee arguments) = ⊥
InstrReadable (Phi reg edges) = IsReg reg × EntriesReadable reg edges

-- ---- functions

pub record ParamReadable (p : Param) : Type 0 where
  pub reg : IsReg p.reg
  pub local : IsSmall p.local

-- what stands before the body of a function, with so many parameters at most behind the first
pub record HeadReadable (room : ℕ) (f : Function) : Type 0 where
  pub result : IsResult f.result
  pub name : IsName f.symbol.name
  pub ordinary : IsOrdinary f.symbol.name
  pub params : Each ParamReadable f.params
  pub few : length f.params ≤ suc room
