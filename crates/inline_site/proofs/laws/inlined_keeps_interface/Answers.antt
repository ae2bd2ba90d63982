use Rattle.inline_site.proofs.Interface.{keeps_interface}
use Rattle.inline_site.proofs.laws.inlined_keeps_interface.Goals as goal

pub returns : goal.returns
returns c = keeps_interface
