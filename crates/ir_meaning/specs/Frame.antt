-- Frames of functions, and what a symbol and an operand are in them (LangRef, "Functions", "Identifiers").
use Rattle.std.specs.Prelude.{ℕ, ◌==◌, if◌then◌else◌, ℤ, List, [], ◌∷◌, Option, Some, None}
use Rattle.ir_tree.specs.declared.block.Terminator.{Terminator}
use Rattle.ir_tree.specs.declared.function.Function.{Function}
use Rattle.ir_tree.specs.declared.instr.Line.{Line}
use Rattle.ir_tree.specs.declared.operand.Argument.{Argument}
use Rattle.ir_tree.specs.declared.operand.Operand.{Operand}
use Rattle.ir_tree.specs.declared.operand.Operand.TheVariants.{Local, Null, Number as Constant, Poison as PoisonOf, Symbol as Named}
use Rattle.ir_tree.specs.declared.operand.Reg.{Reg}
use Rattle.ir_tree.specs.declared.operand.Reg.TheVariants.{Int, Ptr}
use Rattle.ir_tree.specs.declared.operand.Symbol.{Symbol}
use Rattle.ir_meaning.specs.Operate.{bits_of}
use Rattle.lto_bits.specs.Word.{signed}
use Rattle.ir_meaning.specs.declared.value.Base.TheVariants.{Cell, Code, Nowhere}
use Rattle.ir_meaning.specs.declared.value.Value.{Value}
use Rattle.ir_meaning.specs.declared.value.Value.TheVariants.{Number, Pointer, Poison}

abbrev pub Locals : Type 0
Locals = List (ℕ × Value)

-- an activation of a function: what is left of the block that it is in, the values of its locals, and its stack slots
pub record Frame : Type 0 where
  pub function : Function
  pub block : ℕ
  pub rest : List Line
  pub end : Terminator
  pub locals : Locals
  pub slots : List ℕ
  -- the local that takes the answer of the call that it waits for
  pub awaits : Option ℕ

-- the functions of the outside
pub data Host : Type 0 where
  PutChar : Host
  GetChar : Host

-- what a symbol is
pub data SymbolKind : Type 0 where
  AFunction : (params : List Reg) (result : Option Reg) → SymbolKind
  AVariable : (number : ℕ) → SymbolKind
  AHost : (host : Host) → SymbolKind
  Missing : SymbolKind

-- what all bodies of a program rely on: what each symbol is
pub record Signature : Type 0 where
  pub kind : Symbol → SymbolKind

abbrev pub look_up : Locals → ℕ → Value
look_up [] x = Poison
look_up ((y, v) ∷ locals) x = if y == x then v else look_up locals x

-- the locals with a value for this one, if there is one and it has one
abbrev pub bind : Option ℕ → Option Value → Locals → Locals
bind (Some x) (Some v) locals = (x, v) ∷ locals
bind _ _ locals = locals

-- the address of a symbol, with an offset
abbrev pub named : SymbolKind → Symbol → ℕ → Value
named (AFunction params result) s offset = Pointer (Code s) offset
named (AVariable number) s offset = Pointer (Cell number) offset
named (AHost host) s offset = Pointer (Code s) offset
named Missing s offset = Poison

-- the value of an operand
abbrev pub value_of : Signature → Locals → Operand → Value
value_of sig locals (Local x) = look_up locals x
value_of sig locals (Constant w bits) = Number bits
value_of sig locals Null = Pointer Nowhere 0
value_of sig locals (PoisonOf reg) = Poison
value_of sig locals (Named s offset) = named (sig.kind s) s offset

abbrev pub signed_of : ℕ → Option ℕ → Option ℤ
signed_of w None = None
signed_of w (Some n) = Some (signed w n)

-- an index, as signed
abbrev pub index_of : Reg → Value → Option ℤ
index_of (Int w) v = signed_of w (bits_of w v)
index_of Ptr v = None

abbrev pub cons_index : Option ℤ → Option (List ℤ) → Option (List ℤ)
cons_index (Some i) (Some is) = Some (i ∷ is)
cons_index _ _ = None

-- the indices, where none is poison
abbrev pub indices_of : (Operand → Value) → List Argument → Option (List ℤ)
indices_of value [] = Some []
indices_of value (a ∷ more) = cons_index (index_of a.reg (value a.operand)) (indices_of value more)

abbrev pub values_of : (Operand → Value) → List Argument → List Value
values_of value [] = []
values_of value (a ∷ more) = value a.operand ∷ values_of value more

abbrev pub regs_of : List Argument → List Reg
regs_of [] = []
regs_of (a ∷ more) = a.reg ∷ regs_of more
