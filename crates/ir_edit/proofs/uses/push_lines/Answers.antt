use Rattle.std.proofs.Common.{◌∙◌, refl}
use Rattle.std.specs.Prelude.{flat_map}
use Rattle.ir_edit.proofs.Stepping.{given_more}
use Rattle.ir_edit.proofs.uses.push_lines.Goals as goal

pub loop-line-preserved : goal.loop-line-preserved
loop-line-preserved g c =
    given_more g.U.FindUses.of_line (flat_map g.U.FindUses.of_line) (λ x xs. refl) c.args.lines.now c.loop-line.line-index c.line-item.result c.loop-line.uses.items c.push_line.new.uses.items c.loop-line-test.true c.line-item.is c.in_ok-push_line.ensures
    ∙ c.loop-line.invariant
