use Rattle.ir_print.proofs.Written.{wide}
use Rattle.ir_print.proofs.token.push_signed.Goals as goal

pub returns-then-w-gt64 : goal.returns-then-w-gt64
returns-then-w-gt64 c = rw (wide c.args.w c.args.bits c.if-w-gt64.true c.ranges.bits.fits) c.push_decimal.ensures
