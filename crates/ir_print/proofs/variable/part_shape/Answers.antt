use Rattle.std.specs.Prelude.{codes}
use Rattle.ir_print.specs.Types.{shape}
use Rattle.ir_print.specs.Variables as variables
use Rattle.ir_print.proofs.Written.{respelt_last, led_shape}
use Rattle.ir_print.proofs.variable.part_shape.Goals as goal

pub returns-then-not-is_first : goal.returns-then-not-is_first
returns-then-not-is_first c =
    let of = c.args.of.now in
    rw c.if-not-is_first.true (respelt_last _ (shape (codes ", ") of) (variables.further_shape of) _ _ (led_shape (codes ",") of) c.shape.ensures)
