use Rattle.ir_round_trip.proofs.Tasks.{task_once}
use Rattle.ir_round_trip.proofs.laws.tasks_with_one_text_are_one.Goals as goal

pub returns : goal.returns
returns c = task_once c.tasks_with_one_text_agree.ensures c.modules_with_one_text_are_one.ensures
