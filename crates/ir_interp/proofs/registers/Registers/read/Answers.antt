use Rattle.std.proofs.Common.{List, slice_get, sym, ap, ◌∙◌}
use Rattle.ir_machine.specs.declared.scalar.Scalar.{Scalar}
use Rattle.ir_interp.specs.Locals.{or_poison}
use Rattle.ir_interp.proofs.Positions.{got_none, got_some}
use Rattle.ir_interp.proofs.registers.Registers.read.Goals as goal

pub returns-in-Some : goal.returns-in-Some
returns-in-Some c =
    sym (ap or_poison (got_some c.deref.result.now c.args.register c.get.result c.in-Some.value c.in-Some.is c.get.ensures.lookup.1 c.get.ensures.lookup.3))
    ∙ ap (λ (cells : List Scalar). or_poison (slice_get cells c.args.register)) c.deref.ensures.value

pub returns-in-None : goal.returns-in-None
returns-in-None c =
    sym (ap or_poison (got_none c.deref.result.now c.args.register c.get.result c.in-None.is c.get.ensures.lookup.3))
    ∙ ap (λ (cells : List Scalar). or_poison (slice_get cells c.args.register)) c.deref.ensures.value
