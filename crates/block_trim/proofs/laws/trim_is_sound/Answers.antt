use Rattle.block_trim.proofs.TrimSound.{is_sound}
use Rattle.block_trim.proofs.laws.trim_is_sound.Goals as goal

pub returns : goal.returns
returns c = is_sound
