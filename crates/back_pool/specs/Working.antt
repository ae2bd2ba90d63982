-- A worker between two tasks.
use Rattle.std.specs.Prelude.{◌≡◌, ◌≤◌, ℕ, List, IfSome, Option, Some, length, slice_get}
use Rattle.std.specs.List.{AllZip}
use Rattle.atomic_table.specs.Seated.{TableId}
use Rattle.atomic_table.specs.declared.shared.Seat.{Seat}
use Rattle.cache_slot.specs.declared.sight.Sight.{Sight}
use Rattle.cache_slot.specs.Places.{IsAt}
use Rattle.claim_word.specs.Passes.{IsPassOf, draws_of}
use Rattle.claim_word.specs.declared.claims.ClaimPass.{ClaimPass}
use Rattle.claim_word.specs.declared.claims.Claims.{Claims}
use Rattle.lto_task.specs.Tasks.{TaskView, task_view}
use Rattle.lto_task.specs.declared.piece.Piece.{Piece}
use Rattle.lto_task.specs.declared.task.Task.{Task}
use Rattle.back_pool.specs.declared.done.Done.{Done}
use Rattle.back_pool.specs.Making.{IsAnswer}

-- the answer of the task of this number
abbrev pub IsAnswerAt : Type 0 → (TaskView → List Piece → Type 0) → List Task → ℕ → List Piece → Type 0
IsAnswerAt trusted makes tasks n ps = (t : Task) × (slice_get tasks n ≡ Some t) × IsAnswer trusted makes (task_view t) ps

-- the pieces are the answer of their task, where there are any
abbrev pub IsDone : Type 0 → (TaskView → List Piece → Type 0) → List Task → Done → Type 0
IsDone trusted makes tasks d = IfSome d.pieces (IsAnswerAt trusted makes tasks d.number)

-- A worker has a pass of the word and one of the cache, and its list has room for each number that it can draw.
pub record IsAtWork {T R : Type 0} (claims : Claims) (cache : TableId) (draws : ClaimPass) (seat : Seat (Option T) (Sight R)) (done : List Done) (capacity : ℕ) : Type 0 where
  pub of_word : IsPassOf claims draws
  pub of_cache : IsAt cache seat
  pub counted : length done ≤ length (draws_of draws).numbers
  pub roomy : claims.limit ≤ capacity

-- a slot for each task: what is in it is the answer of the task
abbrev pub AreAnswers : Type 0 → (TaskView → List Piece → Type 0) → List Task → List (Option (List Piece)) → Type 0
AreAnswers trusted makes tasks slots = AllZip (λ t slot. IfSome slot (IsAnswer trusted makes (task_view t))) tasks slots
