use Rattle.std.proofs.Common.{◌≡◌, ◌<◌, ℕ, Some, None}
use Rattle.std.specs.Prelude.{slice_get}
use Rattle.ir_tree.specs.Formed.{Distinct, numbers}
use Rattle.ir_tree.specs.declared.block.Block.{Block}
use Rattle.ir_tree.specs.declared.function.Function.{Function}
use Rattle.block_trim.specs.Working.{Joined, next}
use Rattle.block_trim.proofs.joining.Joining.grow_all.Given as goal

abbrev pub invariant-loop-taker : goal.invariant-loop-taker
invariant-loop-taker l = record {
  joined : (f : Function) → f.blocks ≡ l.blocks → Distinct (numbers f) → Joined f l.fn.self → Joined f l.self;
  done : (i : ℕ) (b : Block) → i < l.taker-index → slice_get l.blocks i ≡ Some b → next l.self b.number ≡ None;
}
