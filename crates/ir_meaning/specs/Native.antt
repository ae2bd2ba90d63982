-- Programs whose runs are compared with those of native builds of their texts.
use Rattle.std.specs.Prelude.{◌≡◌, ℕ, ◌+◌, ◌*◌, Bool, true, if◌then◌else◌, List, [], ◌∷◌, ◌++◌, length, Some}
use Rattle.ir_tree.specs.declared.block.Case.{Case}
use Rattle.ir_tree.specs.declared.function.Function.{Function}
use Rattle.ir_tree.specs.declared.function.Param.{Param}
use Rattle.ir_tree.specs.declared.instr.Incoming.{Incoming}
use Rattle.ir_tree.specs.declared.instr.Phi.{Phi}
use Rattle.ir_tree.specs.declared.operand.Argument.{Argument}
use Rattle.ir_tree.specs.declared.operand.Operand.{Operand}
use Rattle.ir_tree.specs.declared.operand.Reg.{Reg}
use Rattle.ir_tree.specs.declared.operand.Reg.TheVariants.{Int}
use Rattle.ir_tree.specs.declared.operand.Symbol.{Symbol}
use Rattle.ir_meaning.specs.Bytes.{number_bytes}
use Rattle.ir_meaning.specs.ExampleRuns.{code_in, other_kind, ran_from, regs_in, sym_f}
use Rattle.ir_meaning.specs.Frame.{AFunction, AVariable, SymbolKind}
use Rattle.ir_meaning.specs.Memory.{Memory, MemoryBlock}
use Rattle.ir_meaning.specs.Program.{Program}
use Rattle.ir_meaning.specs.Run.{Ran, Returned, start}
use Rattle.ir_tree.specs.Symbols.{symbol_eq}
use Rattle.ir_meaning.specs.declared.event.Event.{Event}
use Rattle.ir_meaning.specs.declared.event.Event.TheVariants.{ReadByte, ReadEnd, Wrote}
use Rattle.ir_meaning.specs.declared.value.Byte.{Byte}
use Rattle.ir_meaning.specs.declared.value.Value.TheVariants.{Number}

-- ---- how the trees are written

abbrev pub typed : Reg → Operand → Argument
typed reg o = record { reg = reg; operand = o }

abbrev pub param : ℕ → Reg → Param
param n reg = record { local = n; reg = reg }

abbrev pub edge : ℕ → Operand → Incoming
edge from o = record { from = from; value = o }

-- %n = phi
abbrev pub takes : ℕ → Reg → List Incoming → Phi
takes n reg edges = record { local = n; reg = reg; incoming = edges }

-- a case of a switch on so many bits
abbrev pub case : ℕ → ℕ → ℕ → Case
case w n target = record { reg = Int w; width = w; bits = n; target = target }

-- ---- their meaning

-- what a text defines: its functions, and its variables as they begin
pub record Source : Type 0 where
  pub functions : List Function
  pub variables : List (Symbol × MemoryBlock)

-- a variable of numbers of so many bytes each, aligned so, that may be written or not
abbrev pub numbers_stored : ℕ → List ℕ → List Byte
numbers_stored size [] = []
numbers_stored size (n ∷ ns) = number_bytes size n ++ numbers_stored size ns

abbrev pub numbers : ℕ → ℕ → Bool → List ℕ → MemoryBlock
numbers size align writable ns = record {
  size = size * length ns;
  align = align;
  bytes = numbers_stored size ns;
  live = true;
  writable = writable;
}

abbrev pub variable_kind : ℕ → List (Symbol × MemoryBlock) → Symbol → SymbolKind
variable_kind n [] s = other_kind s
variable_kind n (v ∷ vs) s = if symbol_eq v.0 s then AVariable n else variable_kind (n + 1) vs s

abbrev pub symbol_kind : List Function → List (Symbol × MemoryBlock) → Symbol → SymbolKind
symbol_kind [] vs s = variable_kind 0 vs s
symbol_kind (f ∷ fs) vs s = if symbol_eq f.symbol s then AFunction (regs_in f.params) f.result else symbol_kind fs vs s

abbrev pub opening_of : List (Symbol × MemoryBlock) → Memory
opening_of [] = []
opening_of (v ∷ vs) = v.1 ∷ opening_of vs

abbrev pub program_from : Source → Program
program_from t = record { signature = record { kind = symbol_kind t.functions t.variables }; code = code_in t.functions; opening = opening_of t.variables }

-- the bytes that a run wrote
abbrev pub written : List Event → List ℕ
written [] = []
written (Wrote b ∷ es) = b ∷ written es
written (ReadByte b ∷ es) = written es
written (ReadEnd ∷ es) = written es

-- the run wrote these bytes and returned this number
pub record Shows (ran : Ran) (bytes : List ℕ) (n : ℕ) : Type 0 where
  pub output : written ran.trace ≡ bytes
  pub answer : ran.ending ≡ Returned (Some (Number n))

-- @f without arguments writes these bytes on this input, and returns this number: by choices 0, in at most 300 steps
abbrev pub Returns : Source → List ℕ → List ℕ → ℕ → Type 0
Returns t input bytes n = Shows (ran_from (program_from t) input 300 (start (program_from t) sym_f [])) bytes n
