use Rattle.dead_code.proofs.KeptSound.{is_sound}
use Rattle.dead_code.proofs.laws.needed_is_sound.Goals as goal

pub returns : goal.returns
returns c = is_sound
