use Rattle.std.proofs.Common.{refl, leb-true, le-leb}
use Rattle.ir_interp.specs.Tasks.{CanRun}
use Rattle.ir_interp.proofs.Runnable.{no_claim, same_claim}
use Rattle.ir_interp.proofs.sound.can_run.Goals as goal

pub returns-in-Compute : goal.returns-in-Compute
returns-in-Compute c = same_claim CanRun c.args.task.now _ c.in-Compute.is c.can_compute.ensures

pub returns-in-Call : goal.returns-in-Call
returns-in-Call c = same_claim CanRun c.args.task.now _ c.in-Call.is (λ e. tt, λ h. refl)

pub returns-then-has_width : goal.returns-then-has_width
returns-then-has_width c = same_claim CanRun c.args.task.now _ c.in-Store.is (
  λ e. (c.has_width.ensures.0 c.if-has_width.true, leb-true 1 c.in-Store.align e),
  λ h. le-leb 1 c.in-Store.align h.1,
)

pub returns-in-Reserve : goal.returns-in-Reserve
returns-in-Reserve c = same_claim CanRun c.args.task.now _ c.in-Reserve.is (λ e. tt, λ h. refl)

pub returns-else-has_width : goal.returns-else-has_width
returns-else-has_width c = same_claim CanRun c.args.task.now _ c.in-Store.is (no_claim c.has_width.result c.if-has_width.false (λ h. c.has_width.ensures.1 h.0))
