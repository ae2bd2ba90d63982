use Rattle.std.proofs.Common.{not}
use Rattle.lto_bits.proofs.Choices.{or_second}
use Rattle.lto_bits.proofs.Words.{shifted_below}
use Rattle.lto_bits.proofs.shift.shift_fits_unsigned.Goals as goal

pub returns-else-not-flags : goal.returns-else-not-flags
returns-else-not-flags c = or_second (not c.args.flags.nuw) _ _ c.if-not-flags.false (shifted_below c.args.a c.args.b c.args.w c.greatest.result c.greatest.ensures)
