use Rattle.std.proofs.Common.{arith}
use Rattle.inline_site.proofs.Later.{none_lost}
use Rattle.inline_site.proofs.late.without_lost.Goals as goal

pub returns-then-lost-eq0 : goal.returns-then-lost-eq0
returns-then-lost-eq0 c = none_lost c.args.f c.args.lost.now (omega (arith, c.if-lost-eq0.true))
