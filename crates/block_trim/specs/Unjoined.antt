-- Blocks none of which takes another one.
use Rattle.std.specs.Prelude.{ℕ, nat_eq, Bool, true, ◌&&◌, not, is_some, List, [], ◌∷◌}
use Rattle.ir_tree.specs.declared.block.Block.{Block}
use Rattle.block_trim.specs.Working.{target_if}

-- the block jumps to another one that may go
abbrev pub takes : (ℕ → Bool) → Block → Bool
takes may b = is_some (target_if (λ n. not (nat_eq n b.number) && may n) b.end)

abbrev pub all_stay : (ℕ → Bool) → List Block → Bool
all_stay may [] = true
all_stay may (b ∷ bs) = not (takes may b) && all_stay may bs
