-- Where the items of a block stand among those of its function.
use Rattle.std.specs.Prelude.{◌≡◌, ℕ, List, ◌++◌, drop, slice_get, Some}
use Rattle.ir_tree.specs.declared.block.Block.{Block}
use Rattle.ir_tree.specs.declared.function.Function.{Function}
use Rattle.ir_tree.specs.Items.{Item, items, block_items}

-- the function's block b is this one, and its items stand from here on
pub record Stands (f : Function) (b : ℕ) (block : Block) (at : ℕ) : Type 0 where
  pub got : slice_get f.blocks b ≡ Some block
  pub rest : List Item
  pub items : drop at (items f) ≡ block_items b block ++ rest
