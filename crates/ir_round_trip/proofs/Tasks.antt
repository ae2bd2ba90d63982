-- Tasks with one text are one.
use Rattle.std.proofs.Common.{ap}
use Rattle.ir_tree.specs.declared.module.Module.{Module}
use Rattle.lto_task.specs.Tasks.{TasksAgree, module_of}
use Rattle.ir_round_trip.specs.OneText.{PrintedIsOne}
use Rattle.ir_round_trip.specs.Tasks.{TaskTextIsOne}

pub task_once : TasksAgree → PrintedIsOne → TaskTextIsOne
task_once agree one t u v w same =
    let parts = agree t u v.written w.written same in
    let own = ap (λ (m : Module). m.globals) (one (module_of t.own) (module_of u.own) v.own w.own parts.own) in
    let imported = ap (λ (m : Module). m.globals) (one (module_of t.imported) (module_of u.imported) v.imported w.imported parts.imported) in
    λ i. record { inline_limit = parts.inline_limit i; exports = parts.exports i; promoted = parts.promoted i; own = own i; imported = imported i }
