use Rattle.std.proofs.Common.{◌≡◌, [], ◌∷◌, Option, Result, Err, refl, sym, ap, subst, ◌∙◌}
use Rattle.std.specs.Prelude.{IfErr}
use Rattle.std.proofs.lemmas.Result.{err_from_is_err_and}
use Rattle.ir_meaning.specs.declared.event.Event.TheVariants as event
use Rattle.ir_interp.specs.declared.step_end.StepEnd.{StepEnd}
use Rattle.ir_interp.specs.declared.step_end.StepEnd.TheVariants as step_end
use Rattle.ir_interp.specs.Runs.{IsBlamed}
use Rattle.ir_interp.specs.Turns.{HasAdvanced, Leaves}
use Rattle.ir_interp.specs.declared.end.RunEnd.{RunEnd}
use Rattle.ir_interp.specs.declared.end.RunFault.{RunFault}
use Rattle.ir_interp.proofs.Endings.{blamed_in, on_err}
use Rattle.ir_interp.proofs.Feeding.{err_so, unsent}
use Rattle.ir_interp.proofs.Traces.{keeps_same}
use Rattle.ir_interp.proofs.Turns.{turn_quiet}
use Rattle.ir_interp.proofs.running.turn.Goals as goal

pub returns-in_err-end-clause-cause : goal.returns-in_err-end-clause-cause
returns-in_err-end-clause-cause g c =
    let e : RunFault = c.in_err-end.field-0.0 in
    let p = err_from_is_err_and c.from_residual.result c.from_residual.ensures.1 in
    let same : c.from_residual.result ≡ Err e = p.1 ∙ ap (λ (x : RunFault). Err x) p.2 in
    let blamed = blamed_in (g.I.ByteIn.faults c.args.input.now) (g.I.ByteIn.faults c.advance.new.input) (g.O.ByteOut.faults c.args.out.now) (g.O.ByteOut.faults c.args.out.now) e c.in_err-end.ensures.cause in
    subst
    (λ (r : Result (Option RunEnd) RunFault). IfErr r (IsBlamed (g.I.ByteIn.faults c.args.input.now) (g.I.ByteIn.faults c.advance.new.input) (g.O.ByteOut.faults c.args.out.now) (g.O.ByteOut.faults c.args.out.now)))
    (sym same) blamed

pub returns-in_err-end-clause-kept : goal.returns-in_err-end-clause-kept
returns-in_err-end-clause-kept g c = on_err c.from_residual.result (keeps_same (g.O.ByteOut.sent c.args.out.now))

pub returns-in_err-end-clause-left : goal.returns-in_err-end-clause-left
returns-in_err-end-clause-left g c =
    let e : RunFault = c.in_err-end.field-0.0 in
    let p = err_from_is_err_and c.from_residual.result c.from_residual.ensures.1 in
    let same : c.from_residual.result ≡ Err e = p.1 ∙ ap (λ (x : RunFault). Err x) p.2 in
    err_so (Leaves c.args.machine.now (g.I.ByteIn.left c.args.input.now) (g.I.ByteIn.left c.advance.new.input)) c.from_residual.result e same c.in_err-end.ensures.left

pub returns-in-Going-clause-ok : goal.returns-in-Going-clause-ok
returns-in-Going-clause-ok g c = λ names p s runs.
    let step = subst (λ (e : StepEnd). HasAdvanced names p s (g.I.ByteIn.left c.args.input.now) (g.I.ByteIn.left c.advance.new.input) c.advance.new.machine e) c.in-Going.is (c.in_ok-end.ensures.ok names p s runs) in
    turn_quiet names p s (g.I.ByteIn.left c.args.input.now) (g.I.ByteIn.left c.advance.new.input) (g.O.ByteOut.sent c.args.out.now) c.advance.new.machine step

pub returns-in-Wants-clause-ok : goal.returns-in-Wants-clause-ok
returns-in-Wants-clause-ok g c = λ names p s runs.
    absurd (subst (λ (e : StepEnd). HasAdvanced names p s (g.I.ByteIn.left c.args.input.now) (g.I.ByteIn.left c.advance.new.input) c.advance.new.machine e) c.in-Wants.is (c.in_ok-end.ensures.ok names p s runs))

pub returns-in-Ok-clause-ok : goal.returns-in-Ok-clause-ok
returns-in-Ok-clause-ok g c = λ names p s runs.
    let step = subst (λ (e : StepEnd). HasAdvanced names p s (g.I.ByteIn.left c.args.input.now) (g.I.ByteIn.left c.advance.new.input) c.advance.new.machine e) c.in-Wrote.is (c.in_ok-end.ensures.ok names p s runs) in
    (event.Wrote c.in-Wrote.byte ∷ [], (step, c.in-Ok.ensures.added))

pub returns-in-Err-clause-left : goal.returns-in-Err-clause-left
returns-in-Err-clause-left g c = λ names p s bytes runs is.
    let step = subst (λ (e : StepEnd). HasAdvanced names p s (g.I.ByteIn.left c.args.input.now) (g.I.ByteIn.left c.advance.new.input) c.advance.new.machine e) c.in-Wrote.is (c.in_ok-end.ensures.ok names p s runs) in
    unsent names p s bytes (g.I.ByteIn.left c.args.input.now) (g.I.ByteIn.left c.advance.new.input) c.advance.new.machine c.in-Wrote.byte step is

pub returns-in-Returned-clause-ok : goal.returns-in-Returned-clause-ok
returns-in-Returned-clause-ok g c = λ names p s runs.
    let step = subst (λ (e : StepEnd). HasAdvanced names p s (g.I.ByteIn.left c.args.input.now) (g.I.ByteIn.left c.advance.new.input) c.advance.new.machine e) c.in-Returned.is (c.in_ok-end.ensures.ok names p s runs) in
    (step_end.Returned c.in-Returned.answer, (refl, step, refl))

pub returns-in-Undefined-clause-ok : goal.returns-in-Undefined-clause-ok
returns-in-Undefined-clause-ok g c = λ names p s runs.
    let step = subst (λ (e : StepEnd). HasAdvanced names p s (g.I.ByteIn.left c.args.input.now) (g.I.ByteIn.left c.advance.new.input) c.advance.new.machine e) c.in-Undefined.is (c.in_ok-end.ensures.ok names p s runs) in
    (step_end.Undefined c.in-Undefined.cause c.in-Undefined.place, (refl, step, refl))

pub returns-in-Uninit-clause-ok : goal.returns-in-Uninit-clause-ok
returns-in-Uninit-clause-ok g c = λ names p s runs.
    let step = subst (λ (e : StepEnd). HasAdvanced names p s (g.I.ByteIn.left c.args.input.now) (g.I.ByteIn.left c.advance.new.input) c.advance.new.machine e) c.in-Uninit.is (c.in_ok-end.ensures.ok names p s runs) in
    (step_end.Uninit c.in-Uninit.place, (refl, step, refl))
