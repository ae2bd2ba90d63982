use Rattle.std.proofs.Common.{List, Option, slice_get, sym, ap, ◌∙◌}
use Rattle.ir_interp.specs.Code.{function_in}
use Rattle.ir_interp.specs.declared.code.Function.{Function}
use Rattle.ir_interp.proofs.Positions.{got_none, got_some}
use Rattle.ir_interp.proofs.code.Code.function.Goals as goal

pub returns-in-Some : goal.returns-in-Some
returns-in-Some c =
    c.as_ref.ensures.value
    ∙ sym (ap function_in (got_some c.deref.result.now c.args.index c.get.result c.in-Some.function c.in-Some.is c.get.ensures.lookup.1 c.get.ensures.lookup.3))
    ∙ ap (λ (fs : List (Option Function)). function_in (slice_get fs c.args.index)) c.deref.ensures.value

pub returns-in-None : goal.returns-in-None
returns-in-None c =
    sym (ap function_in (got_none c.deref.result.now c.args.index c.get.result c.in-None.is c.get.ensures.lookup.3))
    ∙ ap (λ (fs : List (Option Function)). function_in (slice_get fs c.args.index)) c.deref.ensures.value
