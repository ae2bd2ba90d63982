use Rattle.std.proofs.Common.{◌≡◌, ℕ, Some, length}
use Rattle.std.specs.Prelude.{slice_get}
use Rattle.lto_task.specs.Tasks.{task_view}
use Rattle.lto_task.specs.declared.task.Task.{Task}
use Rattle.importer.specs.ModuleTasks.{IsTaskAt}
use Rattle.importer.proofs.setting.Setting.tasks.Given as goal

abbrev pub invariant-loop-number : goal.invariant-loop-number
invariant-loop-number l = record {
  count : length l.tasks.items ≡ l.number;
  each : (k : ℕ) (t : Task) → slice_get l.tasks.items k ≡ Some t → IsTaskAt l.self k (task_view t);
}
