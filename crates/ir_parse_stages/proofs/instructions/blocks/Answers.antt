use Rattle.std.proofs.Common.{refl}
use Rattle.ir_parse_names.specs.Marks.{all, block_marks}
use Rattle.ir_parse_stages.proofs.Gathering.{goes_on}
use Rattle.ir_parse_stages.proofs.instructions.blocks.Goals as goal

pub each-preserved : goal.each-preserved
each-preserved c = goes_on block_marks (all block_marks) (λ y ys. refl) c.args.rows.now c.each.block-index c.block-item.result _ _ _ c.each-test.true c.block-item.is c.each.invariant c.in_ok-block_marks.ensures
