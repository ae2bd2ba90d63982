use Rattle.std.proofs.Common.{◌∙◌, map, ap, refl, arith}
use Rattle.std.proofs.lemmas.List.{take_all}
use Rattle.ir_tree.specs.declared.block.Block.{Block}
use Rattle.ir_flow.proofs.Pushed.{pushed}
use Rattle.ir_flow.proofs.predecessors.block_numbers.Goals as goal

pub loop-block-preserved : goal.loop-block-preserved
loop-block-preserved c =
    pushed (λ b. b.number) c.args.blocks.now c.loop-block.block-index c.block-item.result c.block-item.result.number c.loop-block.numbers.items c.push.new.self.items
    c.loop-block-test.true c.block-item.is refl c.in_ok-push.ensures.items c.loop-block.invariant

pub returns : goal.returns
returns c = c.loop-block.invariant ∙ ap (map (λ (b : Block). b.number)) (take_all c.loop-block.block-index c.args.blocks.now (omega arith))
