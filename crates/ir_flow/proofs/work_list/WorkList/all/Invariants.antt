use Rattle.std.proofs.Common.{◌≡◌, ◌<◌, ℕ, true}
use Rattle.ir_tree.specs.Flow.{holds}
use Rattle.ir_flow.specs.Waiting.{AreBelow}
use Rattle.ir_flow.proofs.work_list.WorkList.all.Given as goal

abbrev pub invariant-loop-block : goal.invariant-loop-block
invariant-loop-block l = record {
  there : (b : ℕ) → b < l.block → holds l.queue.items b ≡ true;
  below : AreBelow l.count l.queue.items;
}
