-- Blocks whose terminators stay.
use Rattle.std.specs.Prelude.{Bool, true, ◌&&◌, not, is_some, List, [], ◌∷◌}
use Rattle.ir_tree.specs.declared.block.Block.{Block}
use Rattle.branch_simplify.specs.Decided.{decided}

-- none of their terminators is decided
abbrev pub ends_stay : List Block → Bool
ends_stay [] = true
ends_stay (b ∷ bs) = not (is_some (decided b.end)) && ends_stay bs
