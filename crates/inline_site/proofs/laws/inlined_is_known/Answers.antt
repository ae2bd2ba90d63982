use Rattle.inline_site.proofs.InlinedSound.{is_known}
use Rattle.inline_site.proofs.laws.inlined_is_known.Goals as goal

pub returns : goal.returns
returns c = is_known
