-- What dead code elimination gives, and functions under other numbers, are better than what they are made of.
use Rattle.std.specs.Prelude.{◌≡◌, ℕ, ◌+◌, max, List, [], ◌∷◌, length}
use Rattle.ir_tree.specs.declared.block.Block.{Block}
use Rattle.ir_tree.specs.declared.function.Function.{Function}
use Rattle.ir_tree.specs.Rules.{Sound}
use Rattle.ir_meaning.specs.Near.{BetterThan}
use Rattle.ir_meaning.specs.Program.{Program}
use Rattle.ir_meaning.specs.Formed.{IsFormed}
use Rattle.ir_tree.specs.Edited.{shifted}
use Rattle.ir_edit.specs.Numbered.{in_text_order}
use Rattle.dead_code.specs.Least.{IsNeededOf}

-- how many instructions the longest of these blocks has, without its phis and its terminator
abbrev pub longest : List Block → ℕ
longest [] = 0
longest (b ∷ bs) = max (length b.lines) (longest bs)

-- in every program
abbrev pub NeededIsBetter : Type 0
NeededIsBetter = (f g : Function) → IsNeededOf f g → (p : Program) → IsFormed p → BetterThan p (longest f.blocks + 1) g f

-- and sound where the function is
abbrev pub NeededIsSound : Type 0
NeededIsSound = (f g : Function) → IsNeededOf f g → Sound f → Sound g

-- there is one such function
abbrev pub NeededIsOne : Type 0
NeededIsOne = (f g h : Function) → IsNeededOf f g → IsNeededOf f h → g ≡ h

abbrev pub TextOrderIsBetter : Type 0
TextOrderIsBetter = (p : Program) → IsFormed p → (f : Function) → BetterThan p 1 (in_text_order f) f

abbrev pub ShiftedIsBetter : Type 0
ShiftedIsBetter = (p : Program) → IsFormed p → (by : ℕ) (f : Function) → BetterThan p 1 (shifted by f) f
