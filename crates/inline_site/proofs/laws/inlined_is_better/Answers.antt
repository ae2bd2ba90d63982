use Rattle.inline_site.proofs.Lost.{is_better}
use Rattle.inline_site.proofs.laws.inlined_is_better.Goals as goal

pub returns : goal.returns
returns c = is_better
