use Rattle.std.proofs.Common.{◌≡◌, map, take}
use Rattle.ir_tree.specs.Flow.{successors}
use Rattle.ir_flow.proofs.predecessors.target_numbers.Given as goal

abbrev pub invariant-loop-block : goal.invariant-loop-block
invariant-loop-block l = l.rows ≡ map (λ b. successors b.end) (take l.block-index l.blocks)
