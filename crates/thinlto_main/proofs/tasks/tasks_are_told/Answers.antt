use Rattle.thinlto_main.proofs.TasksTold.{tasks_told}
use Rattle.thinlto_main.proofs.tasks.tasks_are_told.Goals as goal

pub returns : goal.returns
returns c = tasks_told c.tasks_are_spelled.ensures c.tasks_with_one_text_are_one.ensures
