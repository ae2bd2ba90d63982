-- Items within the limits of the grammar: names that can be written, so many parameters, blocks and instructions, counts below
-- 2^64, phis with an entry at least, constants of the types that are written before them, strings of bytes, and a data layout
-- that is supported (LangRef, "Identifiers", "phi Instruction", "Simple Constants", "Complex Constants", "Data Layout").
use Rattle.std.specs.Prelude.{◌≡◌, ◌⊎◌, ℕ, suc, ◌+◌, ◌<◌, ◌≤◌, ◌^◌, true, Option, Some, None, List, [], ◌∷◌, length}
use Rattle.std.specs.List.{AllByRecursion as Each}
use Rattle.ir_parse_bodies.specs.Blocks.{FURTHER_BLOCKS, INSTRUCTIONS}
use Rattle.ir_parse.specs.Modules.{FURTHER_PARAMETERS, GLOBAL_NAMES}
use Rattle.ir_lex.specs.Quotes.{content}
use Rattle.ir_lex.specs.Tok.{Tok}
use Rattle.ir_parse_names.specs.Symbols.{symbol_name}
use Rattle.ir_parse_names.specs.Types.{shape_if}
use Rattle.ir_parse_parts.specs.Shapes as shapes
use Rattle.ir_parse_parts.specs.Shapes.{Written, WrittenParts}
use Rattle.ir_parse_heads.specs.Targets.{fits_layout}
use Rattle.ir_parse_parts.specs.declared.raw.Argument.{Argument}
use Rattle.ir_parse_parts.specs.declared.raw.Block.{Block}
use Rattle.ir_parse_parts.specs.declared.raw.Case.{Case}
use Rattle.ir_parse_parts.specs.declared.raw.FunctionHeader.{FunctionHeader}
use Rattle.ir_parse_parts.specs.declared.raw.Incoming.{Incoming}
use Rattle.ir_parse_parts.specs.declared.raw.Init.{Init}
use Rattle.ir_parse_parts.specs.declared.raw.InitHead.{InitHead}
use Rattle.ir_parse_parts.specs.declared.raw.InitHead.TheVariants as heads
use Rattle.ir_parse_parts.specs.declared.raw.InitPart.{InitPart}
use Rattle.ir_parse_parts.specs.declared.raw.InitPart.TheVariants as parts
use Rattle.ir_parse_parts.specs.declared.raw.Instr.{Instr}
use Rattle.ir_parse_parts.specs.declared.raw.Instr.TheVariants as instr
use Rattle.ir_parse_parts.specs.declared.raw.Item.{Item}
use Rattle.ir_parse_parts.specs.declared.raw.Item.TheVariants as item
use Rattle.ir_parse_parts.specs.declared.raw.WrittenLine.{WrittenLine}
use Rattle.ir_parse_parts.specs.declared.raw.Operand.{Operand}
use Rattle.ir_parse_parts.specs.declared.raw.Operand.TheVariants as operand
use Rattle.ir_parse_parts.specs.declared.raw.Terminator.{Terminator}
use Rattle.ir_parse_parts.specs.declared.raw.Terminator.TheVariants as end
use Rattle.ir_tree.specs.declared.operand.Reg.{Reg}
use Rattle.ir_tree.specs.declared.operand.Reg.TheVariants.{Int, Ptr}
use Rattle.ir_round_trip.specs.PrintedTyped.{NumberTyped}
use Rattle.ir_round_trip.specs.Tokens.{IsWritable, OfBytes}

-- ---- shapes: a type name counts where it is defined

abbrev pub IsCount : ℕ → Type 0
IsCount n = n < 2 ^ 64

abbrev mutual
  pub Counted : Written → Type 0
  Counted (shapes.int width) = Unit {0}
  Counted shapes.pointer = Unit {0}
  Counted (shapes.array count of) = IsCount count × Counted of
  Counted (shapes.structure packed members) = AllCounted members
  Counted (shapes.named name) = Unit {0}

  pub AllCounted : WrittenParts → Type 0
  AllCounted shapes.no_parts = Unit {0}
  AllCounted (shapes.part s more) = Counted s × AllCounted more

-- nothing is asked of an opaque type
abbrev pub TypeCounted : Option Written → Type 0
TypeCounted None = Unit {0}
TypeCounted (Some s) = Counted s

-- ---- operands: a literal and poison are of the type that is written before them, and `true` and `false` may stand anywhere

abbrev pub OperandSpelled : Reg → Operand → Type 0
OperandSpelled reg (operand.Number width bits) = NumberTyped reg width
OperandSpelled reg (operand.Poison r) = r ≡ reg
OperandSpelled reg _ = Unit {0}

abbrev pub ArgumentSpelled : Argument → Type 0
ArgumentSpelled a = OperandSpelled a.reg a.operand

abbrev pub IncomingSpelled : Reg → Incoming → Type 0
IncomingSpelled reg i = OperandSpelled reg i.value

-- ---- functions

abbrev pub HasIncoming : List Incoming → Type 0
HasIncoming [] = ⊥
HasIncoming (i ∷ is) = Unit {0}

abbrev pub InstrSpelled : Instr → Type 0
InstrSpelled (instr.Binary op flags width left right) = OperandSpelled (Int width) left × OperandSpelled (Int width) right
InstrSpelled (instr.Icmp predicate reg left right) = OperandSpelled reg left × OperandSpelled reg right
InstrSpelled (instr.Cast op from value to) = OperandSpelled from value
InstrSpelled (instr.Select condition if_true if_false) = OperandSpelled (Int 1) condition × ArgumentSpelled if_true × ArgumentSpelled if_false
InstrSpelled (instr.Freeze reg value) = OperandSpelled reg value
InstrSpelled (instr.Phi reg incoming) = HasIncoming incoming × Each (IncomingSpelled reg) incoming
InstrSpelled (instr.Alloca typed count align) = Counted typed.shape × IsCount count
InstrSpelled (instr.Load reg address align) = OperandSpelled Ptr address
InstrSpelled (instr.Store reg value address align) = OperandSpelled reg value × OperandSpelled Ptr address
InstrSpelled (instr.Address inbounds typed base indices) = Counted typed.shape × OperandSpelled Ptr base × Each ArgumentSpelled indices
InstrSpelled (instr.Call result callee arguments) = OperandSpelled Ptr callee × Each ArgumentSpelled arguments

abbrev pub LineSpelled : WrittenLine → Type 0
LineSpelled l = InstrSpelled l.instr

abbrev pub CaseSpelled : Case → Type 0
CaseSpelled c = NumberTyped c.reg c.width

abbrev pub EndSpelled : Terminator → Type 0
EndSpelled (end.Return (Some a)) = ArgumentSpelled a
EndSpelled (end.Branch condition if_true if_false) = OperandSpelled (Int 1) condition
EndSpelled (end.Switch width value default cases) = OperandSpelled (Int width) value × Each CaseSpelled cases
EndSpelled _ = Unit {0}

abbrev pub BlockSpelled : Block → Type 0
BlockSpelled b = Each LineSpelled b.lines × EndSpelled b.end

-- how many lines stand in these blocks
abbrev pub lines_in : List Block → ℕ
lines_in [] = 0
lines_in (b ∷ bs) = length b.lines + lines_in bs

pub record BodySpelled (bs : List Block) : Type 0 where
  pub few_blocks : length bs ≤ suc FURTHER_BLOCKS
  pub few_lines : lines_in bs ≤ INSTRUCTIONS
  pub all : Each BlockSpelled bs

abbrev pub FewParams : FunctionHeader → Type 0
FewParams h = length h.params ≤ suc FURTHER_PARAMETERS

abbrev pub NameSpelled : Tok → Type 0
NameSpelled t = IsWritable (symbol_name t)

abbrev pub HeadSpelled : FunctionHeader → Type 0
HeadSpelled h = NameSpelled h.name × FewParams h

-- ---- variables

-- a literal of an integer stands where that integer is written; behind a type name there is none
abbrev pub ConstantSpelled : Written → Operand → Type 0
ConstantSpelled s (operand.Number width bits) = (width ≡ 1) ⊎ (s ≡ shapes.int width)
ConstantSpelled s _ = Unit {0}

abbrev pub BeginningSpelled : Written → InitHead → Type 0
BeginningSpelled s (heads.Plain constant) = ConstantSpelled s constant
BeginningSpelled s (heads.Bytes string) = OfBytes string
BeginningSpelled s _ = Unit {0}

abbrev pub PartSpelled : InitPart → Type 0
PartSpelled (parts.Typed typed head) = Counted typed.shape × BeginningSpelled typed.shape head
PartSpelled parts.End = Unit {0}

-- behind this shape
abbrev pub InitSpelled : Written → Option Init → Type 0
InitSpelled s None = Unit {0}
InitSpelled s (Some i) = BeginningSpelled s i.root × Each PartSpelled i.parts

-- ---- items

abbrev pub LayoutSpelled : Tok → Type 0
LayoutSpelled t = OfBytes t × (fits_layout (content t.form t.text) ≡ true)

abbrev pub ItemSpelled : Item → Type 0
ItemSpelled (item.Datalayout string) = LayoutSpelled string
ItemSpelled (item.Triple string) = OfBytes string
ItemSpelled (item.Type name typed) = TypeCounted (shape_if typed)
ItemSpelled (item.Variable v) = NameSpelled v.name × Counted v.typed.shape × InitSpelled v.typed.shape v.init
ItemSpelled (item.Declaration h) = HeadSpelled h
ItemSpelled (item.Definition h bs) = HeadSpelled h × BodySpelled bs
ItemSpelled (item.Attributes group noinline optnone) = Unit {0}

-- how many of them define or declare a name
abbrev pub count_of : Item → ℕ
count_of (item.Variable v) = 1
count_of (item.Declaration h) = 1
count_of (item.Definition h bs) = 1
count_of i = 0

abbrev pub count_in : List Item → ℕ
count_in [] = 0
count_in (i ∷ is) = count_of i + count_in is

pub record ItemsSpelled (is : List Item) : Type 0 where
  pub all : Each ItemSpelled is
  pub few : count_in is ≤ GLOBAL_NAMES
