use Rattle.std.proofs.Common.{None, inl, sym, subst, ◌∙◌}
use Rattle.ir_meaning.specs.Program.{On}
use Rattle.ir_interp.specs.Code.{IsRunnable}
use Rattle.ir_interp.specs.Steps.{IsStep}
use Rattle.ir_interp.specs.declared.code.Code.{Code}
use Rattle.ir_interp.specs.declared.step_end.StepEnd.{StepEnd}
use Rattle.ir_interp.proofs.Feeding.{advance_quiet, nothing_taken, then_err, then_ok}
use Rattle.ir_interp.proofs.running.advance.Goals as goal

pub returns-in_default-clause-left : goal.returns-in_default-clause-left
returns-in_default-clause-left g c = λ names p s bytes runs is. inl (nothing_taken p s bytes (g.I.ByteIn.left c.args.input.now) is)

pub feed-requires : goal.feed-requires
feed-requires g c = subst (λ (x : Code). IsRunnable x) (sym c.step.ensures.code) c.requires

pub returns-in-Wants-clause-ok : goal.returns-in-Wants-clause-ok
returns-in-Wants-clause-ok g c = then_ok c.feed.result c.feed.ensures.ok (λ end done names p s runs.
    let asked = subst (λ (e : StepEnd). IsStep names p s 0 None c.step.new.self e) c.in-Wants.is (c.in-Ok.ensures.ok names p (On s) runs) in
    done names p s asked.2 asked.1)

pub returns-in-Wants-clause-left : goal.returns-in-Wants-clause-left
returns-in-Wants-clause-left g c = then_err c.feed.result c.feed.ensures.left (λ why done names p s bytes runs is.
    let asked = subst (λ (e : StepEnd). IsStep names p s 0 None c.step.new.self e) c.in-Wants.is (c.in-Ok.ensures.ok names p (On s) runs) in
    done p s bytes asked.1 is)

pub returns-in_default-end-clause-ok : goal.returns-in_default-end-clause-ok
returns-in_default-end-clause-ok g c = λ names p s runs.
    advance_quiet names p s (g.I.ByteIn.left c.args.input.now) c.step.new.self c.in-Ok.end c.in_default-end.not-Wants (c.in-Ok.ensures.ok names p (On s) runs)

pub returns-in-Wants-clause-code : goal.returns-in-Wants-clause-code
returns-in-Wants-clause-code g c = c.feed.ensures.code ∙ c.step.ensures.code
