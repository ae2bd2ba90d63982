use Rattle.slot_promote.proofs.PromotedSound.{is_sound}
use Rattle.slot_promote.proofs.laws.promoted_is_sound.Goals as goal

pub returns : goal.returns
returns c = is_sound
