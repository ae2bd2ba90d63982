use Rattle.std.proofs.Common.{sym}
use Rattle.ir_parse_stages.proofs.Kept.{pushed}
use Rattle.ir_parse_stages.proofs.mark.Marks.push.Goals as goal

pub returns : goal.returns
returns c = rw (sym c.self.view_is, c.in_ok-push.ensures.items) (pushed c.self.inside.rows.items c.args.mark)
