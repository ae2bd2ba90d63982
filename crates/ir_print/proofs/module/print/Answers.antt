use Rattle.std.proofs.Common.{◌∙◌}
use Rattle.std.specs.Prelude.{codes}
use Rattle.ir_print.specs.Modules.{target_lines, global_values}
use Rattle.ir_print.proofs.Written.{three_wrote}
use Rattle.ir_print.proofs.module.print.Goals as goal

pub returns : goal.returns
returns c =
    c.of.ensures
    ∙ three_wrote (target_lines (codes "datalayout") c.args.m.now.datalayout) (target_lines (codes "triple") c.args.m.now.triple) (global_values c.args.m.now.globals) _ _ _ _ c.new-out.ensures.items
    (rw c.as_slice.ensures at c.in_ok-target_lines.ensures) (rw c.as_slice-2.ensures at c.in_ok-target_lines-2.ensures) (rw c.as_slice-3.ensures at c.in_ok-global_values.ensures)
