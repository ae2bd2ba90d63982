use Rattle.std.proofs.Common.{ap, ◌∙◌}
use Rattle.std.proofs.lemmas.Result.{err_from_is_err_and}
use Rattle.std.specs.Prelude.{Err}
use Rattle.ir_tree.specs.declared.failure.Failure.{Failure}
use Rattle.ir_parse_names.specs.declared.fault.Fault.{Fault}
use Rattle.ir_parse_names.specs.Marks.{operand_marks}
use Rattle.ir_parse_sizes.proofs.Within.{fails, goes_on}
use Rattle.ir_parse_sizes.proofs.instruction_limits.entries_within.Goals as goal

pub returns-in_err-operand_within : goal.returns-in_err-operand_within
returns-in_err-operand_within c =
    let e : Failure Fault = c.in_err-operand_within.field-0.0 in
    let p = err_from_is_err_and c.from_residual.result c.from_residual.ensures.1 in
    fails c.args.types.now (λ i. operand_marks i.value) c.args.incoming.now c.each.entry-index c.entry-item.result _ c.each-test.true c.entry-item.is c.each.invariant e c.from_residual.result
    (p.1 ∙ ap (λ (x : Failure Fault). Err x) p.2) c.in_err-operand_within.ensures

pub each-preserved : goal.each-preserved
each-preserved c = goes_on c.args.types.now (λ i. operand_marks i.value) c.args.incoming.now c.each.entry-index c.entry-item.result _ c.each-test.true c.entry-item.is c.each.invariant c.in_ok-operand_within.ensures
