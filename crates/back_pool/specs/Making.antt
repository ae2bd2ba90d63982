-- What a back end makes of a task, and which text of a cache is made of it.
use Rattle.std.specs.Prelude.{◌≡◌, ◌↔◌, ◌⊎◌, ℕ, List, Option, None}
use Rattle.lto_outside.specs.DiskStore.{DiskStore}
use Rattle.lto_outside.specs.Honest.{IsHonest}
use Rattle.cache_slot.specs.Decoded.{decoded}
use Rattle.lto_task.specs.Tasks.{IsWrittenTask, TaskView, task_text}
use Rattle.lto_task.specs.Units.{IsUnit, unit_text}
use Rattle.lto_task.specs.declared.piece.Piece.{Piece}

-- the text is that of a unit that is made of the task
abbrev pub IsMadeText : (TaskView → List Piece → Type 0) → TaskView → List ℕ → Type 0
IsMadeText makes t text = (ps : List Piece) × IsUnit ps × makes t ps × (text ≡ unit_text ps)

-- what fits the text of the task, as a key, are the texts that are made of the task
abbrev pub FitsAsMade : (List ℕ → List ℕ → Type 0) → (TaskView → List Piece → Type 0) → TaskView → Type 0
FitsAsMade fits makes t = (text : List ℕ) → fits (task_text t) text ↔ ∥ IsMadeText makes t text ∥₁

-- what a cache finds was made: it has no directory, or its disk was honest
abbrev pub IsTrusted : (dir : Option (List ℕ)) → (List ℕ → List ℕ → Type 0) → (files : Option DiskStore) → Type 0
IsTrusted dir fits files = (dir ≡ None) ⊎ IsHonest decoded fits files

-- The answer of a task: a unit, and one that is made of the task where the cache is trusted.
pub record IsAnswer (trusted : Type 0) (makes : TaskView → List Piece → Type 0) (t : TaskView) (ps : List Piece) : Type 0 where
  pub unit : IsUnit ps
  pub made : trusted → ∥ makes t ps ∥₁

-- The task may be compiled, its text may be stored as a key, and what fits that are the texts that are made of the task.
pub record IsReady (IsKey : List ℕ → Type 0) (fits : List ℕ → List ℕ → Type 0) (makes : TaskView → List Piece → Type 0) (takes : TaskView → Type 0) (t : TaskView) : Type 0 where
  pub key : IsKey (task_text t)
  pub as_made : IsWrittenTask t → FitsAsMade fits makes t
  pub taken : takes t
