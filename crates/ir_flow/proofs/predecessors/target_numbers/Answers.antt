use Rattle.std.proofs.Common.{◌∙◌, ◌++◌, ℕ, List, map, ap, arith}
use Rattle.std.proofs.lemmas.List.{take_all}
use Rattle.ir_tree.specs.Flow.{successors}
use Rattle.ir_tree.specs.declared.block.Block.{Block}
use Rattle.ir_flow.proofs.Pushed.{pushed}
use Rattle.ir_flow.proofs.predecessors.target_numbers.Goals as goal

pub loop-block-preserved : goal.loop-block-preserved
loop-block-preserved c =
    pushed (λ b. successors b.end) c.args.blocks.now c.loop-block.block-index c.block-item.result c.deref.result.now c.loop-block.rows c.push.new.self
    c.loop-block-test.true c.block-item.is
    (c.deref.ensures.value ∙ c.in_ok-push_targets.ensures ∙ ap (λ (ns : List ℕ). ns ++ successors c.block-item.result.end) c.clear.ensures.items)
    c.in_ok-push.ensures c.loop-block.invariant

pub returns : goal.returns
returns c = c.loop-block.invariant ∙ ap (map (λ (b : Block). successors b.end)) (take_all c.loop-block.block-index c.args.blocks.now (omega arith))
