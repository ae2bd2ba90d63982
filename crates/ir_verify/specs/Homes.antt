-- Where the definition of a local stands.
use Rattle.std.specs.Prelude.{◌≡◌, ℕ, ◌≤◌, true, ◌++◌, take, slice_get, Some}
use Rattle.ir_tree.specs.declared.block.Block.{Block}
use Rattle.ir_tree.specs.declared.function.Function.{Function}
use Rattle.ir_tree.specs.Flow.{holds, phi_locals, results, definitions}
use Rattle.ir_verify.specs.declared.definitions.Home.{Home}

-- the block defines the local, and before its line k exactly where k is this number or more
pub record IsBorn (block : Block) (after x : ℕ) : Type 0 where
  pub here : (k : ℕ) → after ≤ k → holds (phi_locals block ++ results (take k block.lines)) x ≡ true
  pub first : (k : ℕ) → holds (phi_locals block ++ results (take k block.lines)) x ≡ true → after ≤ k
  pub defined : holds (definitions block) x ≡ true

-- the local is defined there
pub record IsHome (f : Function) (h : Home) (x : ℕ) : Type 0 where
  pub block : Block
  pub got : slice_get f.blocks h.block ≡ Some block
  pub born : IsBorn block h.after x
