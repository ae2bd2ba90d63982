use Rattle.importer.proofs.OneTask.{task_is_one}
use Rattle.importer.proofs.task_laws.task_is_one.Goals as goal

pub returns : goal.returns
returns c = task_is_one
