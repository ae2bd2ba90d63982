use Rattle.inline_site.proofs.OneSite.{is_one}
use Rattle.inline_site.proofs.laws.inlined_is_one.Goals as goal

pub returns : goal.returns
returns c = is_one
