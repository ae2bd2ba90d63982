-- A function without the blocks that aren't reached is better, and sound where the function is.
use Rattle.std.specs.Prelude.{◌≡◌}
use Rattle.ir_tree.specs.Rules.{Sound}
use Rattle.ir_tree.specs.declared.function.Function.{Function}
use Rattle.ir_meaning.specs.Near.{BetterThan}
use Rattle.ir_meaning.specs.Program.{Program}
use Rattle.ir_meaning.specs.Formed.{IsFormed}
use Rattle.block_trim.specs.Trimmed.{IsTrimOf}

-- in every program
abbrev pub TrimIsBetter : Type 0
TrimIsBetter = (f g : Function) → IsTrimOf f g → (p : Program) → IsFormed p → BetterThan p 1 g f

-- and sound where the function is
abbrev pub TrimIsSound : Type 0
TrimIsSound = (f g : Function) → IsTrimOf f g → Sound f → Sound g

-- there is one such function
abbrev pub TrimIsOne : Type 0
TrimIsOne = (f g h : Function) → IsTrimOf f g → IsTrimOf f h → g ≡ h
