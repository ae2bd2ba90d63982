-- Tasks that their text tells whole.
use Rattle.std.specs.Prelude.{◌≡◌}
use Rattle.lto_task.specs.Tasks.{IsWrittenTask, TaskView, module_of, task_text}
use Rattle.ir_round_trip.specs.OneText.{ModuleSpelled}

pub record IsSpelled (t : TaskView) : Type 0 where
  pub written : IsWrittenTask t
  pub own : ModuleSpelled (module_of t.own)
  pub imported : ModuleSpelled (module_of t.imported)

-- those with one text are one
abbrev pub TaskTextIsOne : Type 0
TaskTextIsOne = (t u : TaskView) → IsSpelled t → IsSpelled u → task_text t ≡ task_text u → t ≡ u
