-- Numbers of blocks by the places at which they stand.
use Rattle.std.specs.Prelude.{ℕ, ◌+◌, nat_eq, Bool, false, ◌&&◌, ◌||◌, List, [], ◌∷◌}
use Rattle.ir_tree.specs.declared.block.Block.{Block}

-- one of these blocks, of which the first has the place s, has the number n and a place of the set
abbrev pub stands : (ℕ → Bool) → ℕ → List Block → ℕ → Bool
stands places s [] n = false
stands places s (b ∷ bs) n = (nat_eq b.number n && places s) || stands places (s + 1) bs n
