-- A sound function whose blocks are joined is better and sound, and blocks are joined in one way.
use Rattle.std.specs.Prelude.{◌≡◌, ◌-◌, ◌^◌, length}
use Rattle.ir_tree.specs.Formed.{Distinct, numbers}
use Rattle.ir_tree.specs.Rules.{Sound}
use Rattle.ir_tree.specs.declared.function.Function.{Function}
use Rattle.ir_meaning.specs.Near.{BetterThan}
use Rattle.ir_meaning.specs.Program.{Program}
use Rattle.ir_meaning.specs.Formed.{IsFormed}
use Rattle.block_trim.specs.Merged.{IsMergeOf}

-- in every program: a join saves a jump, so that each step answers two at most; soundness gives each phi as many entries as
-- its block has edges
abbrev pub MergeIsBetter : Type 0
MergeIsBetter = (f g : Function) → Sound f → IsMergeOf f g → (p : Program) → IsFormed p → BetterThan p (2 ^ (length f.blocks - length g.blocks)) g f

-- and sound: the only edge to a block that goes came from the block that took it, so that what was available in the one is
-- available behind the other's lines
abbrev pub MergeIsSound : Type 0
MergeIsSound = (f g : Function) → Sound f → IsMergeOf f g → Sound g

-- where no two blocks have one number, there is one such function
abbrev pub MergeIsOne : Type 0
MergeIsOne = (f g h : Function) → Distinct (numbers f) → IsMergeOf f g → IsMergeOf f h → g ≡ h
