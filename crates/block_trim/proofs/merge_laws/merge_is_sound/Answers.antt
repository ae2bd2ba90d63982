use Rattle.block_trim.proofs.JoinedSound.{is_sound}
use Rattle.block_trim.proofs.merge_laws.merge_is_sound.Goals as goal

pub returns : goal.returns
returns c = is_sound
