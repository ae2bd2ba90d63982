-- The addresses of a program's symbols, and the values of constants.
use Rattle.std.specs.Prelude.{◌≡◌, ℕ, ◌⊎◌, List, Option, Some, None}
use Rattle.std.specs.HashMap as hash
use Rattle.ir_tree.specs.Symbols.{symbol_eq}
use Rattle.ir_tree.specs.declared.operand.Operand.{Operand}
use Rattle.ir_tree.specs.declared.operand.Operand.TheVariants as operand
use Rattle.ir_tree.specs.declared.operand.Symbol.{Symbol}
use Rattle.ir_meaning.specs.Frame.{Signature, named}
use Rattle.ir_meaning.specs.declared.value.Value.{Value}
use Rattle.ir_machine.specs.Bytes.{null}
use Rattle.ir_machine.specs.Meant.{meant}
use Rattle.ir_machine.specs.Origins.{Holds}
use Rattle.ir_machine.specs.declared.bytes.Bytes.{Bytes}
use Rattle.ir_machine.specs.declared.scalar.Base.{Base}
use Rattle.ir_machine.specs.declared.scalar.Base.TheVariants.{Null}
use Rattle.ir_machine.specs.declared.scalar.Pointer.{Pointer}
use Rattle.ir_machine.specs.declared.scalar.Scalar.{Scalar}
use Rattle.ir_machine.specs.declared.scalar.Scalar.TheVariants as scalar
use Rattle.machine_code.specs.declared.bases.Bases.{Bases}
use Rattle.machine_code.specs.declared.key.Key.{Key}

-- ---- symbols as keys

abbrev pub key_symbol : Key → Symbol
key_symbol k = record { home = k.home; name = k.name.now }

-- ---- addresses

-- what the address of a symbol is based on, where it has one
abbrev pub base_in : Bases → Symbol → Option Base
base_in t s = hash.get_by (λ key. symbol_eq s (key_symbol key)) t.by_symbol

-- the address at an offset; without a base it is poison
abbrev pub address_at : Option Base → ℕ → Scalar
address_at None offset = scalar.Poison
address_at (Some base) offset = scalar.Pointer (record { base = base; offset = offset })

-- each symbol has the address that it has in the program, or poison where it has none
abbrev pub HasAddresses : List Symbol → Signature → Bases → Type 0
HasAddresses names sig t = (s : Symbol) (offset : ℕ) → meant names (address_at (base_in t s) offset) ≡ named (sig.kind s) s offset

-- the value of a constant; a local is none, and has no value
abbrev pub constant_in : Bases → Operand → Scalar
constant_in t (operand.Local x) = scalar.Poison
constant_in t (operand.Number width bits) = scalar.Number bits
constant_in t operand.Null = scalar.Pointer null
constant_in t (operand.Poison reg) = scalar.Poison
constant_in t (operand.Symbol s offset) = address_at (base_in t s) offset

-- what it means, by what symbols are
abbrev pub value_in : Bases → List Symbol → Operand → Value
value_in t names o = meant names (constant_in t o)

-- null, or what the address of a symbol is based on
abbrev pub IsBaseIn : Bases → Base → Type 0
IsBaseIn t b = (b ≡ Null) ⊎ ((s : Symbol) × (base_in t s ≡ Some b))

abbrev pub IsFrom : Bases → Scalar → Type 0
IsFrom t (scalar.Number n) = Unit {0}
IsFrom t (scalar.Pointer p) = IsBaseIn t p.base
IsFrom t scalar.Poison = Unit {0}

-- each pointer that the bytes hold is one of these addresses
abbrev pub HoldsFrom : Bases → Bytes → Type 0
HoldsFrom t b = (p : Pointer) → Holds b p → IsBaseIn t p.base

-- where those of the old bytes are, those of the new bytes are
abbrev pub KeepsFrom : Bases → Bytes → Bytes → Type 0
KeepsFrom t old new = HoldsFrom t old → HoldsFrom t new
