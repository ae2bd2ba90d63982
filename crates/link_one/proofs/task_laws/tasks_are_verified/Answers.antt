use Rattle.link_one.proofs.TaskParts.{tasks_verified}
use Rattle.link_one.proofs.task_laws.tasks_are_verified.Goals as goal

pub returns : goal.returns
returns c = tasks_verified c.live_by_module.ensures.modules c.live_by_module.ensures.outside c.live_by_module.ensures.sound c.live_is_known.ensures.known c.declarations_are_sound.ensures
