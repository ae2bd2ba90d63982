use Rattle.back_end.proofs.Keeping.{made_known}
use Rattle.back_end.proofs.laws.made_is_known.Goals as goal

pub returns : goal.returns
returns c = made_known (record { inlined = c.inlined_is_known.ensures; inlined_sound = c.inlined_is_sound.ensures })
