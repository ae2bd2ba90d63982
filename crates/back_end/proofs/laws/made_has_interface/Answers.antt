use Rattle.back_end.proofs.Interface.{made_interface}
use Rattle.back_end.proofs.laws.made_has_interface.Goals as goal

pub returns : goal.returns
returns c = made_interface c.inlined_keeps_interface.ensures
