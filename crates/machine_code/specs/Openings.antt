-- The memory that a run of a program begins with.
use Rattle.std.specs.Prelude.{◌≡◌, ℕ, List, [], ◌∷◌, ◌++◌, slice_get, Option, Some, None}
use Rattle.ir_tree.specs.Fits.{FitsShape}
use Rattle.ir_tree.specs.Initials.{Initial}
use Rattle.ir_tree.specs.Layout.{IsLaidOut}
use Rattle.ir_tree.specs.Wholes.{symbols}
use Rattle.ir_tree.specs.declared.function.Variable.{Variable}
use Rattle.ir_tree.specs.declared.module.GlobalValue.{GlobalValue}
use Rattle.ir_tree.specs.declared.module.GlobalValue.TheVariants as global
use Rattle.ir_tree.specs.declared.operand.Symbol.{Symbol}
use Rattle.ir_meaning.specs.Frame.{AVariable}
use Rattle.ir_meaning.specs.Memory.{Memory as MeantMemory}
use Rattle.ir_machine.specs.Blocks.{block_meant}
use Rattle.ir_machine.specs.Memories.{IsHandle}
use Rattle.ir_machine.specs.declared.block.Block.{Block}
use Rattle.ir_machine.specs.declared.memory.Memory.{Memory}
use Rattle.ir_interp.specs.Locals.{IsMemory}
use Rattle.ir_meaning.specs.Programs.{Body, Definition, Storage, block_of, program_of}
use Rattle.machine_code.specs.MemoryAddresses.{HoldsFrom, value_in}
use Rattle.machine_code.specs.Tables.{bytes_of, kind_at, number_at}
use Rattle.machine_code.specs.declared.bases.Bases.{Bases}

-- the program's variables are blocks of this memory, each at the position of its number
abbrev pub HoldsVariables : List GlobalValue → Memory → MeantMemory → Type 0
HoldsVariables gs m memory = (i n : ℕ) (g : GlobalValue) → slice_get gs i ≡ Some g → kind_at (number_at 0 gs i) g ≡ AVariable n → IsHandle m memory (record { number = n; position = n; size = bytes_of g })

-- the machine's memory stands for the one that the program of these globals begins with
pub record IsOpening (gs : List GlobalValue) (m : Memory) : Type 0 where
  pub memory : IsMemory (symbols gs) m (program_of gs).opening
  pub variables : HoldsVariables gs m (program_of gs).opening

-- the block of a variable, whatever the symbols are; the pointers in it are addresses of the table
pub record IsVariableBlock (t : Bases) (n : ℕ) (v : Variable) (init : Initial) (b : Block) : Type 0 where
  pub number : b.number ≡ n
  pub means : (names : List Symbol) → block_meant names b ≡ block_of (value_in t names) v init
  pub holds : HoldsFrom t b.bytes

-- the block that is added for a definition, if it is a variable's
abbrev pub IsAdded : Bases → List Block → Option Definition → List Block → Type 0
IsAdded t old None new = new ≡ old
IsAdded t old (Some (Body f)) new = new ≡ old
IsAdded t old (Some (Storage n v init)) new = (b : Block) × (IsVariableBlock t n v init b × (new ≡ old ++ b ∷ []))

-- the shape of a variable is laid out, and its initialiser fits it
abbrev pub IsGlobalSound : GlobalValue → Type 0
IsGlobalSound (global.Variable v) = IsLaidOut v.shape × FitsShape v
IsGlobalSound (global.Function f) = Unit {0}
