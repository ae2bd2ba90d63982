use Rattle.std.proofs.Common.{◌∙◌}
use Rattle.ir_tree.specs.Edited.{block_edited}
use Rattle.ir_edit.proofs.Stepping.{all_made}
use Rattle.ir_edit.proofs.walk.blocks.Goals as goal

pub loop-old-preserved : goal.loop-old-preserved
loop-old-preserved g c =
    all_made (block_edited (g.E.Edit.number_of c.args.edit.now) (g.E.Edit.operand_of c.args.edit.now)) c.args.blocks.now c.loop-old.old-index c.old-item.result c.in_ok-block.field-0 c.loop-old.rows c.push.new.self c.loop-old-test.true c.old-item.is c.in_ok-block.ensures c.in_ok-push.ensures.ok
    ∙ c.loop-old.invariant
