-- Tables of places: of the blocks that define locals, and of blocks by their numbers.
use Rattle.std.specs.Prelude.{◌≡◌, ℕ, Bool, true, slice_get, map, List, Option, Some}
use Rattle.ir_tree.specs.Flow.{defined_in, holds}
use Rattle.ir_tree.specs.declared.block.Block.{Block}
use Rattle.ir_tree.specs.declared.instr.Phi.{Phi}

abbrev pub phis_give : List Phi → ℕ → Bool
phis_give ps x = holds (map (λ p. p.local) ps) x

-- a local that stands in the table is defined by the block at its place
abbrev pub ArePlaced : List Block → (ℕ → Option ℕ) → Type 0
ArePlaced bs at = (x p : ℕ) → at x ≡ Some p → defined_in (slice_get bs p) x ≡ true

pub record IsNumbered (bs : List Block) (n p : ℕ) : Type 0 where
  pub block : Block
  pub found : slice_get bs p ≡ Some block
  pub number : block.number ≡ n

-- a number that stands in the table is that of the block at its place
abbrev pub AreNumbered : List Block → (ℕ → Option ℕ) → Type 0
AreNumbered bs at = (n p : ℕ) → at n ≡ Some p → IsNumbered bs n p
