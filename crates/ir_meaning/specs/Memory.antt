-- Blocks of memory and their lives (LangRef, "Memory Model", "Object Lifetime" and "alloca Instruction").
use Rattle.std.specs.Prelude.{◌≡◌, ℕ, Bool, true, false, List, [], ◌∷◌, replicate, slice_get, slice_set, Option, Some, None}
use Rattle.ir_meaning.specs.declared.value.Base.{Base}
use Rattle.ir_meaning.specs.declared.value.Base.TheVariants.{Cell, Code, Nowhere}
use Rattle.ir_meaning.specs.declared.value.Byte.{Byte}
use Rattle.ir_meaning.specs.declared.value.Byte.TheVariants.{Unset}

-- a block of memory
pub record MemoryBlock : Type 0 where
  pub size : ℕ
  pub align : ℕ
  pub bytes : List Byte
  pub live : Bool
  pub writable : Bool

-- the blocks, by their numbers: first the variables of the program, in its order, then the stack blocks as they were made
abbrev pub Memory : Type 0
Memory = List MemoryBlock

-- the block of this number is there, and lives
abbrev pub Lives : Memory → ℕ → Type 0
Lives memory k = (b : MemoryBlock) × (slice_get memory k ≡ Some b) × (b.live ≡ true)

abbrev pub fresh : ℕ → ℕ → MemoryBlock
fresh size align = record { size = size; align = align; bytes = replicate size Unset; live = true; writable = true }

abbrev pub dead : MemoryBlock → MemoryBlock
dead b = record b { live = false }

abbrev pub end_life : Memory → ℕ → Option MemoryBlock → Memory
end_life memory k None = memory
end_life memory k (Some b) = slice_set memory k (dead b)

-- the blocks of these numbers are dead
abbrev pub kill : List ℕ → Memory → Memory
kill [] memory = memory
kill (k ∷ ks) memory = kill ks (end_life memory k (slice_get memory k))

abbrev pub size_or_zero : Option MemoryBlock → ℕ
size_or_zero None = 0
size_or_zero (Some b) = b.size

-- the size of what a base is; a dead block keeps its size
abbrev pub object_size : Memory → Base → ℕ
object_size memory Nowhere = 0
object_size memory (Code s) = 0
object_size memory (Cell k) = size_or_zero (slice_get memory k)
