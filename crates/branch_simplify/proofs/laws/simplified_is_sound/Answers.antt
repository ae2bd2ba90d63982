use Rattle.branch_simplify.proofs.SimplifiedSound.{is_sound}
use Rattle.branch_simplify.proofs.laws.simplified_is_sound.Goals as goal

pub returns : goal.returns
returns c = is_sound
