use Rattle.lto_task.proofs.Agreeing.{tasks_agree}
use Rattle.lto_task.proofs.task_writing.tasks_with_one_text_agree.Goals as goal

pub returns : goal.returns
returns c = tasks_agree
