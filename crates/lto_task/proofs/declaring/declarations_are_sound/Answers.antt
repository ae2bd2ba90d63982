use Rattle.lto_task.proofs.Declared.{declarations_sound}
use Rattle.lto_task.proofs.declaring.declarations_are_sound.Goals as goal

pub returns : goal.returns
returns c = declarations_sound
