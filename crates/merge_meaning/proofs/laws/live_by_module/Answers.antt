use Rattle.merge_meaning.proofs.ByModule.{live_by_module, outside_declared, parts_are_sound, parts_define}
use Rattle.merge_meaning.proofs.laws.live_by_module.Goals as goal

pub returns-clause-modules : goal.returns-clause-modules
returns-clause-modules c = live_by_module

pub returns-clause-definitions : goal.returns-clause-definitions
returns-clause-definitions c = parts_define

pub returns-clause-sound : goal.returns-clause-sound
returns-clause-sound c = parts_are_sound

pub returns-clause-outside : goal.returns-clause-outside
returns-clause-outside c = outside_declared
