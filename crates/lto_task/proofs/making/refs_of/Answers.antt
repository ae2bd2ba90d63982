use Rattle.std.proofs.Common.{◌∙◌, ℕ, List, ap, subst, sym}
use Rattle.std.specs.Prelude.{Contains}
use Rattle.std.proofs.lemmas.Result.{IfOk-weaker}
use Rattle.ir_summary.specs.Once.{texts}
use Rattle.lto_task.proofs.making.refs_of.Goals as goal

pub returns-clause-refers : goal.returns-clause-refers
returns-clause-refers c =
    IfOk-weaker c.copies.result _ _
    (λ rows is name.
    let sorted = c.sort_names.ensures.same name in
    let refs = is ∙ ap texts c.deref.ensures.value in (
      λ h. subst (λ (names : List (List ℕ)). Contains names name) c.in_ok-names.ensures (sorted.0 (subst (λ (names : List (List ℕ)). Contains names name) refs h)),
      λ h. subst (λ (names : List (List ℕ)). Contains names name) (sym refs) (sorted.1 (subst (λ (names : List (List ℕ)). Contains names name) (sym c.in_ok-names.ensures) h)),
    ))
    c.copies.ensures
