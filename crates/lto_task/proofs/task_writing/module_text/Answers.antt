use Rattle.std.proofs.Common.{map}
use Rattle.lto_task.proofs.Values.{two_written}
use Rattle.lto_task.proofs.task_writing.module_text.Goals as goal

pub returns : goal.returns
returns c =
    two_written (map (λ g. g.now) c.args.m.now.defined.items) c.args.m.now.declared _ _ _ c.new-out.ensures (rw c.deref.ensures.value at c.in_ok-push_defined.ensures)
    (rw c.as_slice.ensures at c.in_ok-push_declared.ensures)
