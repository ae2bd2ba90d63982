-- Tasks of links of files, each of which its text tells whole.
use Rattle.std.specs.Prelude.{◌≡◌, ℕ, List, All, map}
use Rattle.std.specs.List.{AllZip}
use Rattle.ir_tree.specs.Names.{AllBytes}
use Rattle.ir_tree.specs.declared.module.Module.{Module}
use Rattle.combined_index.specs.Suffixes.{suffix_of}
use Rattle.lto_task.specs.Tasks.{IsWrittenTask, TaskView, task_text}
use Rattle.link_one.specs.Accepted.{Accepts}
use Rattle.link_one.specs.ModuleUnits.{IsTaskInLink}
use Rattle.ir_round_trip.specs.Tasks.{IsSpelled}

-- the task of a module of a link of these files
pub record IsTaskOfFiles (files : List (List ℕ)) (t : TaskView) : Type 0 where
  pub exports : List (List ℕ)
  pub import_limit : ℕ
  pub inline_limit : ℕ
  pub ms : List Module
  pub accepted : AllZip Accepts files ms
  pub in_link : IsTaskInLink exports import_limit inline_limit (map suffix_of files) ms t

-- its text tells the whole of it
abbrev pub TasksAreSpelled : Type 0
TasksAreSpelled = (files : List (List ℕ)) (t : TaskView) → All AllBytes files → IsTaskOfFiles files t → IsWrittenTask t → IsSpelled t

-- so tasks with one text are one, whichever links they are of
abbrev pub TasksAreTold : Type 0
TasksAreTold =
    (files others : List (List ℕ)) (t u : TaskView) → All AllBytes files → All AllBytes others → IsTaskOfFiles files t → IsTaskOfFiles others u → IsWrittenTask t → IsWrittenTask u
    → task_text t ≡ task_text u → t ≡ u
