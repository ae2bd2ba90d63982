-- What each symbol of a program is for calls, and the code of its function.
use Rattle.std.specs.Prelude.{◌≡◌, ℕ, List, [], ◌∷◌, Option, Some, None}
use Rattle.ir_tree.specs.declared.block.Block.{Block as MeantBlock}
use Rattle.ir_tree.specs.declared.function.Function.{Function as MeantFunction}
use Rattle.ir_tree.specs.declared.module.GlobalValue.{GlobalValue}
use Rattle.ir_tree.specs.declared.module.GlobalValue.TheVariants as global
use Rattle.ir_meaning.specs.Frame.{AHost, SymbolKind, Missing}
use Rattle.ir_interp.specs.Calls.{IsKind, host_meant}
use Rattle.ir_interp.specs.declared.callee.Entity.{Entity}
use Rattle.ir_interp.specs.declared.host.Host.{Host}
use Rattle.ir_meaning.specs.Programs.{defined_blocks}
use Rattle.ir_interp.specs.declared.code.Function.{Function as CodeFunction}
use Rattle.machine_code.specs.Tables.{kind_at}
use Rattle.machine_code.specs.Blocks.{HasSoundInstrs, IsFunctionFor}
use Rattle.machine_code.specs.declared.addresses.Addresses.{Addresses}

-- ---- what symbols are

-- a function of the outside, or none
abbrev pub host_kind : Option Host → SymbolKind
host_kind None = Missing
host_kind (Some host) = AHost (host_meant host)

-- ---- code

abbrev pub IsEntityFor : GlobalValue → Entity → Type 0
IsEntityFor g e = (n : ℕ) → IsKind e (kind_at n g)

abbrev pub IsBodyOf : Addresses → MeantFunction → List MeantBlock → Option CodeFunction → Type 0
IsBodyOf t f [] o = o ≡ None
IsBodyOf t f (b ∷ bs) None = ⊥
IsBodyOf t f (b ∷ bs) (Some g) = IsFunctionFor t f g

-- the code of a function that is defined
abbrev pub IsBodyFor : Addresses → GlobalValue → Option CodeFunction → Type 0
IsBodyFor t (global.Variable v) o = o ≡ None
IsBodyFor t (global.Function f) o = IsBodyOf t f (defined_blocks f) o

-- each instruction is one of a sound function
abbrev pub IsSoundGlobal : GlobalValue → Type 0
IsSoundGlobal (global.Variable v) = Unit {0}
IsSoundGlobal (global.Function f) = HasSoundInstrs f
