-- What a program is asked for: its variables live and their pointers lead to variables, and its symbols name variables that are there.
use Rattle.std.specs.Prelude.{◌≡◌, ℕ, ◌<◌, List, [], ◌∷◌}
use Rattle.ir_tree.specs.declared.operand.Symbol.{Symbol}
use Rattle.ir_meaning.specs.Frame.{AVariable}
use Rattle.ir_meaning.specs.Memory.{Lives, Memory}
use Rattle.ir_meaning.specs.Program.{Program, variables}
use Rattle.ir_meaning.specs.declared.value.Base.{Base}
use Rattle.ir_meaning.specs.declared.value.Base.TheVariants.{Cell}
use Rattle.ir_meaning.specs.declared.value.Byte.{Byte}
use Rattle.ir_meaning.specs.declared.value.Byte.TheVariants.{Fragment}

-- the pointer leads to one of the first n blocks, if to any
abbrev pub IsInside : ℕ → Base → Type 0
IsInside n (Cell block) = block < n
IsInside n _ = Unit {0}

abbrev pub ByteIsInside : ℕ → Byte → Type 0
ByteIsInside n (Fragment i x o) = IsInside n x
ByteIsInside n _ = Unit {0}

abbrev pub BytesAreInside : ℕ → List Byte → Type 0
BytesAreInside n [] = Unit {0}
BytesAreInside n (b ∷ bs) = ByteIsInside n b × BytesAreInside n bs

abbrev pub MemoryIsInside : ℕ → Memory → Type 0
MemoryIsInside n [] = Unit {0}
MemoryIsInside n (b ∷ bs) = BytesAreInside n b.bytes × MemoryIsInside n bs

-- the variables hold pointers to variables alone, and live
pub record OpensInside (p : Program) : Type 0 where
  pub inside : MemoryIsInside (variables p) p.opening
  pub alive : (l : ℕ) → l < variables p → Lives p.opening l

-- each symbol of a variable has a number of the variables
abbrev pub IsFormed : Program → Type 0
IsFormed p = (s : Symbol) (number : ℕ) → p.signature.kind s ≡ AVariable number → number < variables p
