use Rattle.std.proofs.Common.{arith, ap, length}
use Rattle.outside_real.proofs.Fronts.{all_read}
use Rattle.outside_real.proofs.reading.read_all.Goals as goal

pub returns-clause-all : goal.returns-clause-all
returns-clause-all g c =
    all_read g.T.Read.remaining c.take-front.result c.args.reader c.args.limit c.new-bytes.result.items c.read_to_end.new.buf.items c.of.result
    (omega (arith, c.take-front.ensures.limit, c.from.ensures)) c.take-front.ensures.inner c.new-bytes.ensures.items c.of.ensures (omega (arith, ap length c.of.ensures, c.len.ensures, c.if-len-limit.false)) c.in_default.ensures.bytes
