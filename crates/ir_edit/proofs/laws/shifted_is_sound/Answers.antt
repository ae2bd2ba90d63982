use Rattle.ir_edit.proofs.RenamedSound.{shifted_sound}
use Rattle.ir_edit.proofs.laws.shifted_is_sound.Goals as goal

pub returns : goal.returns
returns c = shifted_sound
