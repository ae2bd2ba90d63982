use Rattle.std.proofs.Common.{◌∙◌}
use Rattle.std.proofs.lemmas.Bool.{le-leb}
use Rattle.ir_interp.proofs.Widths.{none_left, wide}
use Rattle.ir_interp.proofs.bits.fits.Goals as goal

pub returns-then-width-ge64 : goal.returns-then-width-ge64
returns-then-width-ge64 c = le-leb 64 c.args.width c.if-width-ge64.true ∙ wide c.args.number c.args.width c.ranges.number.fits c.if-width-ge64.true

pub returns-else-width-ge64 : goal.returns-else-width-ge64
returns-else-width-ge64 c = none_left c.args.number c.args.width
