use Rattle.std.proofs.Common.{◌∙◌, ◌-◌, arith, refl}
use Rattle.std.proofs.lemmas.Bool.{false≢true}
use Rattle.lto_task.proofs.Rises.{at_place, rise_below_all, rise_pair}
use Rattle.lto_task.proofs.order.names_rise.Goals as goal

pub returns-then-not-is_before : goal.returns-then-not-is_before
returns-then-not-is_before c = (
  λ e. absurd (false≢true e),
  λ up. c.if-not-is_before.ensures.1
      (rise_pair c.args.names.now c.loop-i.i c.as_slice.result.now c.as_slice-in-loop-i.result.now (omega arith) (omega arith)
      (c.as_slice.ensures ∙ at_place c.args.names.now (c.loop-i.i - 1) c.index-names-i.result (omega arith) c.index-names-i.is)
      (c.as_slice-in-loop-i.ensures ∙ at_place c.args.names.now c.loop-i.i c.index-names-i-in-loop-i.result (omega arith) c.index-names-i-in-loop-i.is) up),
)

pub returns : goal.returns
returns c = (λ _. rise_below_all c.args.names.now c.loop-i.i (omega (arith, c.loop-i-test.false)) c.loop-i.invariant, λ _. refl)
