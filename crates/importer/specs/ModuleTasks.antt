-- The tasks of the modules of a link, by number.
use Rattle.std.specs.Prelude.{◌≡◌, ℕ, List, [], Some, length, slice_get, slice_index_or}
use Rattle.ir_tree.specs.declared.module.GlobalValue.{GlobalValue}
use Rattle.ir_tree.specs.declared.operand.Symbol.{Symbol}
use Rattle.lto_task.specs.Tasks.{TaskView, task_view}
use Rattle.lto_task.specs.declared.task.Task.{Task}
use Rattle.thin_link.specs.Views.{rows}
use Rattle.importer.specs.Brought.{joined}
use Rattle.importer.specs.Tasks.{IsTaskOf}
use Rattle.importer.specs.declared.setting.Setting.{Setting}

-- the task of the module of this number
abbrev pub IsTaskOfNumber : List (List ℕ) → ℕ → List Symbol → List (List ℕ) → List (List ℕ) → List (List ℕ) → List (List GlobalValue) → ℕ → TaskView → Type 0
IsTaskOfNumber exports limit symbols suffixes imports promoted parts k t =
    IsTaskOf exports limit (joined parts) symbols suffixes (slice_index_or imports k []) (slice_index_or promoted k []) (slice_index_or parts k []) t

-- a task for each module
pub record AreTasks (exports : List (List ℕ)) (limit : ℕ) (symbols : List Symbol) (suffixes : List (List ℕ)) (imports promoted : List (List ℕ)) (parts : List (List GlobalValue)) (tasks : List Task) : Type 0 where
  pub count : length tasks ≡ length parts
  pub each : (k : ℕ) (t : Task) → slice_get tasks k ≡ Some t → IsTaskOfNumber exports limit symbols suffixes imports promoted parts k (task_view t)

-- ---- in a setting

abbrev pub IsTaskAt : Setting → ℕ → TaskView → Type 0
IsTaskAt s number t = IsTaskOfNumber s.exports.now s.limit s.symbols.now s.suffixes.now (rows s.imports.now) (rows s.promoted.now) s.parts.now number t
