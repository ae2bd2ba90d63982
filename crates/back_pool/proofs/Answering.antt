-- What a cache finds under the text of a task is the answer of the task.
use mathlib.Core.Logic.{∥∥₁_elim, ∥∥₁_map}
use Rattle.std.proofs.Common.{◌≡◌, ◌∙◌, ℕ, List, None, Option, Some, subst, sym}
use Rattle.std.specs.Prelude.{IfSome, MatchOption}
use Rattle.lto_task.specs.Tasks.{TaskView, task_text}
use Rattle.lto_task.specs.Units.{IsUnit, UnitTextIsOne, unit_text}
use Rattle.lto_task.specs.declared.piece.Piece.{Piece}
use Rattle.back_pool.specs.Making.{FitsAsMade, IsAnswer, IsMadeText}

module _ (fits : List ℕ → List ℕ → Type 0) (makes : TaskView → List Piece → Type 0) (t : TaskView) (as_made : FitsAsMade fits makes t) (one : UnitTextIsOne) where
  made_of_text : (ps : List Piece) → IsUnit ps → IsMadeText makes t (unit_text ps) → makes t ps
  made_of_text ps unit made = subst (makes t) (sym (one ps made.0 unit made.1 made.3)) made.2

  made_of_fit : (ps : List Piece) → IsUnit ps → fits (task_text t) (unit_text ps) → ∥ makes t ps ∥₁
  made_of_fit ps unit fit = ∥∥₁_map ((as_made (unit_text ps)).0 fit) (made_of_text ps unit)

  pub found_answers : (trusted : Type 0) (key : List ℕ) → key ≡ task_text t → (ps : List Piece) → IsUnit ps → (trusted → ∥ fits key (unit_text ps) ∥₁) → IsAnswer trusted makes t ps
  found_answers trusted key key_is ps unit found = record {
    unit = unit;
    made = λ h. ∥∥₁_elim (subst (λ (k : List ℕ). ∥ fits k (unit_text ps) ∥₁) key_is (found h)) squash₁ (made_of_fit ps unit);
  }

-- what was taken of a text is the unit whose text it is
module _ (N : Type 0) (bytes : List ℕ) where
  pub taken_is_unit : (o : Option (List Piece)) → MatchOption o N (λ ps. IsUnit ps × (bytes ≡ unit_text ps)) → IfSome o IsUnit
  taken_is_unit None taken = tt
  taken_is_unit (Some ps) taken = taken.0

  pub taken_fits : (text : List ℕ) → bytes ≡ text → (trusted : Type 0) (Fits : List ℕ → Type 0) → (trusted → ∥ Fits text ∥₁)
      → (o : Option (List Piece)) → MatchOption o N (λ ps. IsUnit ps × (bytes ≡ unit_text ps)) → IfSome o (λ ps. trusted → ∥ Fits (unit_text ps) ∥₁)
  taken_fits text same trusted Fits found None taken = tt
  taken_fits text same trusted Fits found (Some ps) taken = λ h. subst (λ (t : List ℕ). ∥ Fits t ∥₁) (sym same ∙ taken.1) (found h)
