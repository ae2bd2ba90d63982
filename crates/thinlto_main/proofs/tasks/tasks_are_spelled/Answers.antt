use Rattle.thinlto_main.proofs.TasksTold.{tasks_spelled}
use Rattle.thinlto_main.proofs.tasks.tasks_are_spelled.Goals as goal

pub returns : goal.returns
returns c = tasks_spelled (record { of_parts = c.tasks_are_of_parts.ensures; verified = c.tasks_are_verified.ensures; parts = c.parts_are_spelled.ensures; declares = c.declarations_are_spelled.ensures; told = c.spelled_modules_are_told.ensures })
