-- A program's table of symbols: what each global is, its number where it is a variable, and what its address is based on.
use Rattle.std.specs.Prelude.{◌≡◌, ℕ, zero, suc, Bool, true, false, if◌then◌else◌, List, [], ◌∷◌, slice_get, Option, Some, None}
use Rattle.ir_tree.specs.Layout as layout
use Rattle.ir_tree.specs.Symbols.{symbol_eq}
use Rattle.ir_tree.specs.declared.module.GlobalValue.{GlobalValue}
use Rattle.ir_tree.specs.declared.module.GlobalValue.TheVariants as global
use Rattle.ir_tree.specs.declared.operand.Symbol.{Symbol}
use Rattle.ir_meaning.specs.Frame.{AFunction, AHost, AVariable, SymbolKind, Missing}
use Rattle.ir_machine.specs.declared.scalar.Base.{Base}
use Rattle.ir_machine.specs.declared.scalar.Base.TheVariants.{Block, Function}
use Rattle.ir_meaning.specs.Programs.{behind, defined, kind_of, symbol_of}
use Rattle.machine_code.specs.MemoryAddresses.{base_in}
use Rattle.machine_code.specs.declared.bases.Bases.{Bases}

-- ---- what symbols are

-- the number of the next variable behind so many globals, before which that of the next one is n
abbrev pub number_at : ℕ → List GlobalValue → ℕ → ℕ
number_at n [] i = n
number_at n (g ∷ gs) zero = n
number_at n (g ∷ gs) (suc i) = number_at (behind n (defined n g)) gs i

-- what the global is in its program, where the next variable has number n
abbrev pub kind_at : ℕ → GlobalValue → SymbolKind
kind_at n g = kind_of true (symbol_of g) (defined n g)

abbrev pub is_outside : SymbolKind → Bool
is_outside (AFunction params result) = false
is_outside (AHost host) = true
is_outside (AVariable n) = false
is_outside Missing = false

-- ---- addresses

abbrev pub bytes_of : GlobalValue → ℕ
bytes_of (global.Variable v) = layout.size v.shape
bytes_of (global.Function f) = 0

-- functions are known by their index in the table, variables by the block of their number
abbrev pub base_of : ℕ → SymbolKind → ℕ → Option Base
base_of i (AFunction params result) size = Some (Function i)
base_of i (AHost host) size = Some (Function i)
base_of i (AVariable n) size = Some (Block (record { number = n; position = n; size = size }))
base_of i Missing size = None

abbrev pub base_at : ℕ → ℕ → GlobalValue → Option Base
base_at i n g = base_of i (kind_at n g) (bytes_of g)

-- a base that is noted for a symbol, over what was there
abbrev pub noted : Symbol → Option Base → Symbol → Option Base → Option Base
noted at None s old = old
noted at (Some base) s old = if symbol_eq at s then Some base else old

-- the global at an index has this symbol and this base
pub record IsBased (gs : List GlobalValue) (at : Symbol) (b : Base) : Type 0 where
  pub index : ℕ
  pub value : GlobalValue
  pub there : slice_get gs index ≡ Some value
  pub symbol : symbol_of value ≡ at
  pub base : base_at index (number_at 0 gs index) value ≡ Some b

-- each global has its base under its symbol, and nothing else has one
pub record IsTable (gs : List GlobalValue) (t : Bases) : Type 0 where
  pub found : (i : ℕ) (g : GlobalValue) → slice_get gs i ≡ Some g → base_in t (symbol_of g) ≡ base_at i (number_at 0 gs i) g
  pub only : (s : Symbol) (base : Base) → base_in t s ≡ Some base → IsBased gs s base

abbrev pub IsGlobalLaidOut : GlobalValue → Type 0
IsGlobalLaidOut (global.Variable v) = layout.IsLaidOut v.shape
IsGlobalLaidOut (global.Function f) = Unit {0}
