-- A sound function with its slots promoted is better in every program, and sound.
use Rattle.std.specs.Prelude.{ℕ, ◌+◌, max, List, [], ◌∷◌, length}
use Rattle.ir_tree.specs.Rules.{Sound}
use Rattle.ir_tree.specs.declared.block.Block.{Block}
use Rattle.ir_tree.specs.declared.function.Function.{Function}
use Rattle.ir_meaning.specs.Near.{BetterThan}
use Rattle.ir_meaning.specs.Program.{Program}
use Rattle.ir_meaning.specs.Formed.{IsFormed}
use Rattle.slot_promote.specs.Promoted.{promoted_function}

-- how many instructions the longest of these blocks has, without its phis and its terminator
abbrev pub longest : List Block → ℕ
longest [] = 0
longest (b ∷ bs) = max (length b.lines) (longest bs)

-- in every program: `alloca`s and stores are steps that the function takes alone
abbrev pub PromotedIsBetter : Type 0
PromotedIsBetter = (f : Function) → Sound f → (p : Program) → IsFormed p → BetterThan p (longest f.blocks + 1) (promoted_function f) f

abbrev pub PromotedIsSound : Type 0
PromotedIsSound = (f : Function) → Sound f → Sound (promoted_function f)
