-- Functions and variables whose names are known: each local and each block that is used is defined under its number, and
-- symbols are those of no module of their own.
use Rattle.std.specs.Prelude.{◌≡◌, ℕ, Option, Some, None, List, [], ◌∷◌, slice_get}
use Rattle.std.specs.List.{AllByRecursion as Each}
use Rattle.ir_parse_values.specs.Blocks.{as_phi}
use Rattle.ir_parse_names.specs.declared.locals.Sort.{Sort}
use Rattle.ir_parse_names.specs.declared.locals.Sort.TheVariants.{Value, Block}
use Rattle.ir_tree.specs.Flow.{successors}
use Rattle.ir_tree.specs.Formed.{ResultFormed}
use Rattle.ir_tree.specs.Items.{reads, taken, end_reads}
use Rattle.ir_tree.specs.Initials.{Initial, Initials, plain, zeros, bytes, elements, members, no_initials, initial}
use Rattle.ir_tree.specs.Names.{AllBytes}
use Rattle.ir_tree.specs.declared.block.Block as tree_block
use Rattle.ir_tree.specs.declared.block.Terminator.{Terminator}
use Rattle.ir_tree.specs.declared.function.Function.{Function}
use Rattle.ir_tree.specs.declared.function.Linkage.TheVariants.{External}
use Rattle.ir_tree.specs.declared.function.Variable.{Variable}
use Rattle.ir_tree.specs.declared.instr.Line.{Line}
use Rattle.ir_tree.specs.declared.operand.Argument.{Argument}
use Rattle.ir_tree.specs.declared.operand.Operand.{Operand}
use Rattle.ir_tree.specs.declared.operand.Operand.TheVariants.{Local, Symbol}
use Rattle.ir_round_trip.specs.Bodies.{stated}
use Rattle.ir_round_trip.specs.Sorts.{sorts, IsNumbered}

-- ---- uses, by what is defined in the order of the text

abbrev pub IsDefinedAs : List Sort → Sort → ℕ → Type 0
IsDefinedAs ss s n = slice_get ss n ≡ Some s

abbrev pub OperandKnown : List Sort → Operand → Type 0
OperandKnown ss (Local n) = IsDefinedAs ss Value n
OperandKnown ss (Symbol symbol offset) = symbol.home ≡ None
OperandKnown ss x = Unit {0}

abbrev pub ArgumentKnown : List Sort → Argument → Type 0
ArgumentKnown ss a = OperandKnown ss a.operand

-- what it reads, and the blocks that it names; it has a name where it gives a result
pub record LineKnown (ss : List Sort) (l : Line) : Type 0 where
  pub operands : Each (ArgumentKnown ss) (reads l.instr)
  pub entries : Each (λ e. OperandKnown ss e.value × IsDefinedAs ss Block e.from) (taken l.instr)
  pub result : ResultFormed l.instr l.local

pub record EndKnown (ss : List Sort) (t : Terminator) : Type 0 where
  pub operands : Each (ArgumentKnown ss) (end_reads t)
  pub targets : Each (IsDefinedAs ss Block) (successors t)

-- no phi stands first behind the phis
abbrev pub FirstIsNoPhi : List Line → Type 0
FirstIsNoPhi [] = Unit {0}
FirstIsNoPhi (l ∷ ls) = as_phi l ≡ None

pub record BlockKnown (ss : List Sort) (b : tree_block.Block) : Type 0 where
  pub lines : Each (LineKnown ss) (stated b)
  pub first : FirstIsNoPhi b.lines
  pub end : EndKnown ss b.end

-- ---- functions and variables

pub record FunctionKnown (f : Function) : Type 0 where
  pub numbered : IsNumbered f
  pub home : f.symbol.home ≡ None
  pub blocks : Each (BlockKnown (sorts f)) f.blocks

-- symbols are of no module of their own, and strings are bytes
abbrev mutual
  pub InitialKnown : Initial → Type 0
  InitialKnown (plain x) = OperandKnown [] x
  InitialKnown zeros = Unit {0}
  InitialKnown (bytes text) = AllBytes text
  InitialKnown (elements parts) = InitialsKnown parts
  InitialKnown (members packed parts) = InitialsKnown parts

  pub InitialsKnown : Initials → Type 0
  InitialsKnown no_initials = Unit {0}
  InitialsKnown (initial f v vs) = InitialKnown v × InitialsKnown vs

abbrev pub InitKnown : Option Initial → Type 0
InitKnown None = Unit {0}
InitKnown (Some v) = InitialKnown v

-- a variable without an initialiser has no linkage of its own
pub record VariableKnown (v : Variable) : Type 0 where
  pub home : v.symbol.home ≡ None
  pub init : InitKnown v.init
  pub declared : v.init ≡ None → v.linkage ≡ External
