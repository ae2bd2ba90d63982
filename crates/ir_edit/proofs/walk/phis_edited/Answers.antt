use Rattle.std.proofs.Common.{◌∙◌}
use Rattle.ir_tree.specs.Edited.{phi_edited}
use Rattle.ir_edit.proofs.Stepping.{all_made}
use Rattle.ir_edit.proofs.walk.phis_edited.Goals as goal

pub loop-old-preserved : goal.loop-old-preserved
loop-old-preserved g c =
    all_made (phi_edited (g.E.Edit.number_of c.args.edit.now) (g.E.Edit.operand_of c.args.edit.now)) c.args.phis.now c.loop-old.old-index c.old-item.result c.in_ok-phi.field-0 c.loop-old.rows c.push.new.self c.loop-old-test.true c.old-item.is c.in_ok-phi.ensures c.in_ok-push.ensures.ok
    ∙ c.loop-old.invariant
