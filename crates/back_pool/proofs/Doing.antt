-- What a worker's list holds once a task is done.
use Rattle.std.proofs.Common.{◌≡◌, ◌∙◌, ◌≤◌, ◌++◌, [], ◌∷◌, ℕ, All, Bool, List, None, Option, Some, ap, arith, false, length, length-append, refl, subst, sym, true}
use Rattle.std.specs.Prelude.{IfOk, IfSome, Result, Ok, Err, slice_get}
use Rattle.std.specs.Result.{result_ok}
use Rattle.std.proofs.lemmas.List.Elements.{All-push}
use Rattle.claim_word.specs.Views.{drew}
use Rattle.claim_word.specs.declared.view.Draws.{Draws}
use Rattle.lto_task.specs.Tasks.{TaskView, task_view}
use Rattle.lto_task.specs.declared.piece.Piece.{Piece}
use Rattle.lto_task.specs.declared.task.Task.{Task}
use Rattle.back_pool.specs.Making.{IsAnswer}
use Rattle.back_pool.specs.Working.{IsAnswerAt, IsDone}
use Rattle.back_pool.specs.declared.done.Done.{Done}

module _ (trusted : Type 0) (makes : TaskView → List Piece → Type 0) (tasks : List Task) where
  answered : {E : Type 0} (n : ℕ) (t : Task) → slice_get tasks n ≡ Some t → (r : Result (List Piece) E) → IfOk r (IsAnswer trusted makes (task_view t)) → IfSome (result_ok r) (IsAnswerAt trusted makes tasks n)
  answered n t at (Ok ps) answer = (t, at, answer)
  answered n t at (Err e) answer = tt

  pub done_more : {E : Type 0} (n : ℕ) (t : Task) → slice_get tasks n ≡ Some t → (r : Result (List Piece) E) → IfOk r (IsAnswer trusted makes (task_view t)) → (o : Option (List Piece)) → o ≡ result_ok r
      → (done after : List Done) → All (IsDone trusted makes tasks) done → after ≡ done ++ record { number = n; pieces = o } ∷ [] → All (IsDone trusted makes tasks) after
  done_more n t at r answer o is done after all pushed =
      let one : IfSome o (IsAnswerAt trusted makes tasks n) = subst (λ (p : Option (List Piece)). IfSome p (IsAnswerAt trusted makes tasks n)) (sym is) (answered n t at r answer) in
      subst (λ (ds : List Done). All (IsDone trusted makes tasks) ds) (sym pushed) (All-push (IsDone trusted makes tasks) done (record { number = n; pieces = o }) all one)

-- A number that was drawn: the pass had not met the end.
pub drawn : {No Yes : Type 0} (ended : Bool) (n : ℕ) → (ended ≡ true → (Some n ≡ None) × No) → (ended ≡ false → Yes) → Yes
drawn true n past here = let clash : Some n ≡ None = (past refl).0 in absurd (cc)
drawn false n past here = here refl

-- What is done is as many as were drawn, or fewer.
pub counted_more : (done after : List Done) (one : Done) (v w : Draws) (n : ℕ) → length done ≤ length v.numbers → after ≡ done ++ one ∷ [] → w ≡ drew v n → length after ≤ length w.numbers
counted_more done after one v w n few pushed more =
    let longer = ap length pushed ∙ length-append done (one ∷ []) in
    let numbers = ap (λ (d : Draws). length d.numbers) more ∙ length-append v.numbers (n ∷ []) in
    omega (arith, few, longer, numbers)
