use Rattle.std.proofs.Common.{◌∙◌, List, Option, subst}
use Rattle.std.specs.Prelude.{IfSome}
use Rattle.std.proofs.lemmas.Result.{IfOk-weaker}
use Rattle.lto_task.specs.Tasks.{task_view}
use Rattle.lto_task.specs.Units.{IsUnit, unit_text}
use Rattle.lto_task.specs.declared.piece.Piece.{Piece}
use Rattle.back_pool.specs.Making.{IsTrusted}
use Rattle.back_pool.proofs.Answering.{found_answers}
use Rattle.back_pool.proofs.pool.Pool.answer.Goals as goal

pub returns-in-Some-clause-answer : goal.returns-in-Some-clause-answer
returns-in-Some-clause-answer g c =
    let fits = g.D.CacheDisk.fits in
    let trusted = IsTrusted g.S.Setting.dir fits g.S.Setting.files in
    let unit : IsUnit c.in-Some.pieces = subst (λ (o : Option (List Piece)). IfSome o IsUnit) c.in-Some.is c.in_ok-pieces.ensures.unit in
    let found : trusted → ∥ fits c.as_slice.result.now (unit_text c.in-Some.pieces) ∥₁ =
    subst (λ (o : Option (List Piece)). IfSome o (λ ps. trusted → ∥ fits c.as_slice.result.now (unit_text ps) ∥₁)) c.in-Some.is c.in_ok-pieces.ensures.fits in
    found_answers fits g.B.Backend.makes (task_view c.args.task.now) (c.requires.fits c.in_ok-key.ensures.written) c.unit_text_is_one.ensures trusted c.as_slice.result.now (c.as_slice.ensures ∙ c.in_ok-key.ensures.text) c.in-Some.pieces unit found

pub made-requires-clause-fits : goal.made-requires-clause-fits
made-requires-clause-fits g c = c.requires.fits c.in_ok-key.ensures.written

pub returns-clause-answer : goal.returns-clause-answer
returns-clause-answer g c = IfOk-weaker c.made.result _ _ (λ ps made. record { unit = made.0; made = λ _. ∣ made.1 ∣₁ }) c.made.ensures.made
