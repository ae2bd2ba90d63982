-- A walk over the items of a function.
use Rattle.std.specs.Prelude.{◌≡◌, length}
use Rattle.ir_tree.specs.Formed.{Formed}
use Rattle.ir_tree.specs.Items.{items}
use Rattle.ir_verify.specs.declared.blocks.Walk.{Walk}
use Rattle.ir_verify.specs.Known.{IsKnown}

-- its function is well formed, what it knows is of that function, and each item stands on a line
pub record IsWalk (w : Walk) : Type 0 where
  pub known : IsKnown w.function.now w.known.now
  pub formed : Formed w.function.now
  pub lined : length w.lines.now ≡ length (items w.function.now)
