use Rattle.lto_task.specs.Tasks.{task_view}
use Rattle.lto_task.specs.declared.task.Task.{Task}
use Rattle.importer.specs.ModuleTasks.{IsTaskAt}
use Rattle.importer.proofs.Members.{each_more}
use Rattle.importer.proofs.setting.Setting.tasks.Goals as goal

pub loop-number-preserved : goal.loop-number-preserved
loop-number-preserved c =
    let more = each_more (λ k (t : Task). IsTaskAt c.args.self.now k (task_view t)) c.loop-number.tasks.items c.push.new.self.items c.in_ok-task.task c.loop-number.number c.loop-number.invariant.count c.loop-number.invariant.each c.in_ok-task.ensures c.in_ok-push.ensures.items in
    record { count = more.0; each = more.1 }
