use Rattle.std.proofs.Common.{ap}
use Rattle.std.proofs.lemmas.Result.{IfOk-weaker}
use Rattle.thin_link.specs.Views.{rows}
use Rattle.link_one.proofs.LinkTasks.{same_tasks}
use Rattle.link_one.proofs.linked.tasks_prepared.Goals as goal

pub returns : goal.returns
returns c = IfOk-weaker c.tasks_of.result _ _ (λ tasks are. same_tasks c.args.exports.now c.args.inline_limit c.args.suffixes.now tasks.items c.symbols.ensures.symbols (ap rows c.deref-2.ensures.value) (ap rows c.deref-3.ensures.value) c.deref.ensures.value are) c.tasks_of.ensures
