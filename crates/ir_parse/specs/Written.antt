-- What the grammar makes of the text of a function or a variable, besides its names (LangRef, "Type System", "Simple Constants",
-- "Instruction Reference").
use Rattle.std.specs.Prelude.{◌≡◌, ℕ, ◌<◌, ◌^◌, Bool, false, List, [], All, Option, Some, None}
use Rattle.ir_lex.specs.Tok.{Tok}
use Rattle.ir_parse_parts.specs.Shapes.{Written, WrittenParts, int, pointer, array, structure, named, no_parts, part}
use Rattle.ir_parse_parts.specs.declared.raw.Argument.{Argument}
use Rattle.ir_parse_parts.specs.declared.raw.Block.{Block}
use Rattle.ir_parse_parts.specs.declared.raw.Case.{Case}
use Rattle.ir_parse_parts.specs.declared.raw.FunctionHeader.{FunctionHeader}
use Rattle.ir_parse_parts.specs.declared.raw.Init.{Init}
use Rattle.ir_parse_parts.specs.declared.raw.InitHead.{InitHead}
use Rattle.ir_parse_parts.specs.declared.raw.InitHead.TheVariants as heads
use Rattle.ir_parse_parts.specs.declared.raw.InitPart.{InitPart}
use Rattle.ir_parse_parts.specs.declared.raw.InitPart.TheVariants as init
use Rattle.ir_parse_parts.specs.declared.raw.Instr.{Instr}
use Rattle.ir_parse_parts.specs.declared.raw.Instr.TheVariants as kind
use Rattle.ir_parse_parts.specs.declared.raw.WrittenLine.{WrittenLine}
use Rattle.ir_parse_parts.specs.declared.raw.Operand.{Operand}
use Rattle.ir_parse_parts.specs.declared.raw.Operand.TheVariants as operand
use Rattle.ir_parse_parts.specs.declared.raw.Terminator.{Terminator}
use Rattle.ir_parse_parts.specs.declared.raw.Terminator.TheVariants as end
use Rattle.ir_parse_parts.specs.declared.raw.Variable.{Variable}
use Rattle.ir_tree.specs.Formed.{IsAlignment, IsReg, IsResult, IsScalar, IsStored, IsWidth, FlagsFormed}
use Rattle.ir_tree.specs.declared.function.Linkage.TheVariants.{External}
use Rattle.ir_parse_names.specs.Types.{Types}

-- ---- shapes and alignments

-- integers in memory have 8, 16, 32 or 64 bits
abbrev mutual
  pub ShapeWritten : Written → Type 0
  ShapeWritten (int w) = IsStored w
  ShapeWritten pointer = Unit {0}
  ShapeWritten (array count of) = ShapeWritten of
  ShapeWritten (structure packed parts) = PartsWritten parts
  ShapeWritten (named name) = Unit {0}

  pub PartsWritten : WrittenParts → Type 0
  PartsWritten no_parts = Unit {0}
  PartsWritten (part first rest) = ShapeWritten first × PartsWritten rest

-- an opaque type has no shape
abbrev pub TypeWritten : Option Written → Type 0
TypeWritten None = Unit {0}
TypeWritten (Some shape) = ShapeWritten shape

abbrev pub TypesWritten : Types → Type 0
TypesWritten types = All (λ d. TypeWritten d.1) types

-- an alignment may be left out
abbrev pub AlignWritten : Option ℕ → Type 0
AlignWritten None = Unit {0}
AlignWritten (Some a) = IsAlignment a

-- ---- operands

-- a literal has bits of its width
abbrev pub OperandWritten : Operand → Type 0
OperandWritten (operand.Number width bits) = IsWidth width × (bits < 2 ^ width)
OperandWritten (operand.Poison reg) = IsReg reg
OperandWritten _ = Unit {0}

abbrev pub ArgumentWritten : Argument → Type 0
ArgumentWritten a = IsReg a.reg × OperandWritten a.operand

-- ---- instructions

abbrev pub InstrWritten : Instr → Type 0
InstrWritten (kind.Binary op flags width left right) = FlagsFormed op flags × IsWidth width × OperandWritten left × OperandWritten right
InstrWritten (kind.Icmp predicate reg left right) = IsReg reg × OperandWritten left × OperandWritten right
InstrWritten (kind.Cast op from value to) = IsReg from × OperandWritten value × IsReg to
InstrWritten (kind.Select condition if_true if_false) = OperandWritten condition × ArgumentWritten if_true × ArgumentWritten if_false
InstrWritten (kind.Freeze reg value) = IsReg reg × OperandWritten value
InstrWritten (kind.Phi reg incoming) = IsReg reg × All (λ e. OperandWritten e.value) incoming
InstrWritten (kind.Alloca typed count align) = ShapeWritten typed.shape × AlignWritten align
InstrWritten (kind.Load reg address align) = IsScalar reg × OperandWritten address × AlignWritten align
InstrWritten (kind.Store reg value address align) = IsScalar reg × OperandWritten value × OperandWritten address × AlignWritten align
InstrWritten (kind.Address inbounds typed base indices) = ShapeWritten typed.shape × OperandWritten base × All ArgumentWritten indices
InstrWritten (kind.Call result callee arguments) = IsResult result × OperandWritten callee × All ArgumentWritten arguments

-- a store gives nothing to name
abbrev pub NameWritten : Instr → Option Tok → Type 0
NameWritten (kind.Store reg value address align) name = name ≡ None
NameWritten _ name = Unit {0}

abbrev pub LineWritten : WrittenLine → Type 0
LineWritten l = InstrWritten l.instr × NameWritten l.instr l.name

-- ---- blocks

abbrev pub CaseWritten : Case → Type 0
CaseWritten c = IsReg c.reg × IsWidth c.width × (c.bits < 2 ^ c.width)

abbrev pub EndWritten : Terminator → Type 0
EndWritten (end.Return (Some a)) = ArgumentWritten a
EndWritten (end.Branch condition if_true if_false) = OperandWritten condition
EndWritten (end.Switch width value default cases) = IsWidth width × OperandWritten value × All CaseWritten cases
EndWritten _ = Unit {0}

abbrev pub BlockWritten : Block → Type 0
BlockWritten b = All LineWritten b.lines × EndWritten b.end

-- ---- functions

-- a declaration is external and keeps no attributes
abbrev pub DeclarationWritten : FunctionHeader → Bool → Bool → Type 0
DeclarationWritten head noinline optnone = (head.linkage ≡ External) × (noinline ≡ false) × (optnone ≡ false)

pub record IsWritten (head : FunctionHeader) (body : List Block) (noinline optnone : Bool) : Type 0 where
  pub result : IsResult head.result
  pub params : All (λ p. IsReg p.reg) head.params
  pub blocks : All BlockWritten body
  pub declared : body ≡ [] → DeclarationWritten head noinline optnone

-- ---- variables

abbrev pub HeadWritten : InitHead → Type 0
HeadWritten (heads.Plain operand) = OperandWritten operand
HeadWritten _ = Unit {0}

abbrev pub PartWritten : InitPart → Type 0
PartWritten (init.Typed typed head) = HeadWritten head
PartWritten init.End = Unit {0}

abbrev pub InitWritten : Option Init → Type 0
InitWritten None = Unit {0}
InitWritten (Some i) = HeadWritten i.root × All PartWritten i.parts

-- one that is only declared is external
pub record VariableWritten (v : Variable) : Type 0 where
  pub shape : ShapeWritten v.typed.shape
  pub align : AlignWritten v.align
  pub init : InitWritten v.init
  pub declared : v.init ≡ None → v.linkage ≡ External
