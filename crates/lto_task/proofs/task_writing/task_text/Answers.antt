use Rattle.lto_task.proofs.Values.{six_written}
use Rattle.lto_task.proofs.task_writing.task_text.Goals as goal

pub returns-clause-text : goal.returns-clause-text
returns-clause-text c =
    six_written _ _ _ _ _ _ _ _ _ _ _ _ _ c.new-out.ensures c.in_ok-push_number_line.ensures c.in_ok-push_number_line-2.ensures (rw c.deref.ensures.value at c.in_ok-push_exports.ensures.wrote)
    (rw c.deref-2.ensures.value at c.in_ok-push_promoted.ensures.wrote) c.in_ok-push_module.ensures.wrote c.in_ok-push_module-2.ensures.wrote
