-- What the machine's memory stands for: the live blocks by position, against all blocks by number.
use Rattle.std.specs.Prelude.{◌≡◌, ℕ, ◌<◌, ◌⊎◌, true, List, [], ◌∷◌, ◌++◌, length, slice_get, slice_set, Option, Some, None}
use Rattle.ir_tree.specs.declared.operand.Symbol.{Symbol}
use Rattle.ir_tree.specs.declared.operand.Reg.{Reg}
use Rattle.ir_meaning.specs.Access.{store, store_cause}
use Rattle.ir_meaning.specs.Memory.{Memory as MeantMemory, MemoryBlock, end_life, fresh, size_or_zero}
use Rattle.ir_machine.specs.Blocks.{block_meant}
use Rattle.ir_meaning.specs.declared.value.Value.{Value as MeantValue}
use Rattle.ir_machine.specs.Bytes.{null}
use Rattle.ir_machine.specs.Origins.{Holds}
use Rattle.ir_machine.specs.declared.block.Block.{Block}
use Rattle.ir_machine.specs.declared.block.Stored.{Stored}
use Rattle.ir_machine.specs.declared.block.Stored.TheVariants.{Done, Undefined}
use Rattle.ir_machine.specs.declared.memory.Memory.{Memory}
use Rattle.ir_machine.specs.declared.outcome.Outcome.{Outcome}
use Rattle.ir_machine.specs.declared.outcome.Outcome.TheVariants.{Uninit, Undefined as Undefines, Value as OfValue}
use Rattle.ir_machine.specs.declared.scalar.Base.{Base}
use Rattle.ir_machine.specs.declared.scalar.Base.TheVariants.{Block as OfBlock, Function, Null}
use Rattle.ir_machine.specs.declared.scalar.Handle.{Handle}
use Rattle.ir_machine.specs.declared.scalar.Pointer.{Pointer}
use Rattle.ir_machine.specs.declared.scalar.Scalar.{Scalar}
use Rattle.ir_machine.specs.declared.scalar.Scalar.TheVariants as scalar

-- the block at a position
abbrev pub block_at : Memory → ℕ → Option Block
block_at m q = slice_get m.blocks.items q

-- each block of the machine is a live one of the meaning, under its number; their numbers rise
pub record Stands (names : List Symbol) (m : Memory) (memory : MeantMemory) : Type 0 where
  pub made : m.made ≡ length memory
  pub held : (q : ℕ) (b : Block) → block_at m q ≡ Some b → slice_get memory b.number ≡ Some (block_meant names b)
  pub rising : (q r : ℕ) (b c : Block) → q < r → block_at m q ≡ Some b → block_at m r ≡ Some c → b.number < c.number

-- a handle tells the size of its block, and its position while it lives
pub record IsHandle (m : Memory) (memory : MeantMemory) (h : Handle) : Type 0 where
  pub older : h.number < length memory
  pub size : size_or_zero (slice_get memory h.number) ≡ h.size
  pub found : (d : MemoryBlock) → slice_get memory h.number ≡ Some d → d.live ≡ true →
      (b : Block) × ((block_at m h.position ≡ Some b) × (b.number ≡ h.number))

abbrev pub IsBase : Memory → MeantMemory → Base → Type 0
IsBase m memory Null = Unit {0}
IsBase m memory (Function i) = Unit {0}
IsBase m memory (OfBlock h) = IsHandle m memory h

-- each block that a value points to is as its handle says
abbrev pub IsScalar : Memory → MeantMemory → Scalar → Type 0
IsScalar m memory (scalar.Number n) = Unit {0}
IsScalar m memory (scalar.Pointer p) = IsBase m memory p.base
IsScalar m memory scalar.Poison = Unit {0}

-- m' is m with block c at position p in place of b, under the same number
pub record Replaced (m : Memory) (p : ℕ) (b c : Block) (m' : Memory) : Type 0 where
  pub there : block_at m p ≡ Some b
  pub items : m'.blocks.items ≡ slice_set m.blocks.items p c
  pub made : m'.made ≡ m.made
  pub number : c.number ≡ b.number

-- what handles were, they still are
abbrev pub KeepsHandles : Memory → MeantMemory → Memory → MeantMemory → Type 0
KeepsHandles m memory m' memory' = (h : Handle) → IsHandle m memory h → IsHandle m' memory' h

-- what a store makes of memory
abbrev pub IsMemoryStored : List Symbol → Memory → MeantMemory → Reg → MeantValue → MeantValue → ℕ → Memory → Stored → Type 0
IsMemoryStored names m memory reg value address align m' Done =
    (after : MeantMemory)
    × (store memory reg value address align ≡ Some after)
    × Stands names m' after
    × KeepsHandles m memory m' after
IsMemoryStored names m memory reg value address align m' (Undefined cause) =
    (store memory reg value address align ≡ None)
    × (cause ≡ store_cause memory reg address)
    × Stands names m' memory
    × KeepsHandles m memory m' memory

-- what a new stack block makes of memory
abbrev pub IsReserved : List Symbol → Memory → MeantMemory → ℕ → ℕ → Memory → Handle → Type 0
IsReserved names m memory size align m' h =
    (h.number ≡ length memory)
    × Stands names m' (memory ++ fresh size align ∷ [])
    × IsHandle m' (memory ++ fresh size align ∷ []) h
    × KeepsHandles m memory m' (memory ++ fresh size align ∷ [])

-- what the end of a block's life makes of memory
abbrev pub IsEnded : List Symbol → Memory → MeantMemory → Block → Memory → Type 0
IsEnded names m memory b m' =
    Stands names m' (end_life memory b.number (slice_get memory b.number))
    × KeepsHandles m memory m' (end_life memory b.number (slice_get memory b.number))

-- ---- pointers in memory

-- one of these blocks holds a pointer
abbrev pub InBlocks : List Block → Pointer → Type 0
InBlocks blocks p = (q : ℕ) × ((b : Block) × ((slice_get blocks q ≡ Some b) × Holds b.bytes p))

-- a live block holds a pointer
abbrev pub InMemory : Memory → Pointer → Type 0
InMemory m p = InBlocks m.blocks.items p

-- a pointer that is loaded is null or one that a live block holds
abbrev pub IsLoaded : Memory → Outcome → Type 0
IsLoaded m (OfValue (scalar.Number n)) = Unit {0}
IsLoaded m (OfValue (scalar.Pointer p)) = (p ≡ null) ⊎ InMemory m p
IsLoaded m (OfValue scalar.Poison) = Unit {0}
IsLoaded m (Undefines cause) = Unit {0}
IsLoaded m Uninit = Unit {0}

-- what blocks hold after it, they held before, but for the value that was stored
abbrev pub GainsOnly : Memory → Scalar → Memory → Type 0
GainsOnly m value m' = (p : Pointer) → InMemory m' p → InMemory m p ⊎ (value ≡ scalar.Pointer p)

-- what blocks hold after it, they held before
abbrev pub GainsNone : Memory → Memory → Type 0
GainsNone m m' = (p : Pointer) → InMemory m' p → InMemory m p

-- the numbers of blocks, in their order
abbrev pub numbers_of : List Block → List ℕ
numbers_of [] = []
numbers_of (b ∷ bs) = b.number ∷ numbers_of bs
