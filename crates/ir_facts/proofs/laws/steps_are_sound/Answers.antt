use Rattle.ir_facts.proofs.StepsSound.{steps_sound}
use Rattle.ir_facts.proofs.laws.steps_are_sound.Goals as goal

pub returns : goal.returns
returns c = steps_sound
