use Rattle.std.proofs.Common.{ap, ◌∙◌}
use Rattle.std.proofs.lemmas.Result.{err_from_is_err_and}
use Rattle.std.specs.Prelude.{Err}
use Rattle.ir_tree.specs.declared.failure.Failure.{Failure}
use Rattle.ir_parse_names.specs.declared.fault.Fault.{Fault}
use Rattle.ir_parse_names.specs.Marks.{item_marks}
use Rattle.ir_parse_sizes.proofs.Within.{fails, goes_on}
use Rattle.ir_parse.proofs.item_limits.items_within.Goals as goal

pub returns-in_err-item_within : goal.returns-in_err-item_within
returns-in_err-item_within c =
    let e : Failure Fault = c.in_err-item_within.field-0.0 in
    let p = err_from_is_err_and c.from_residual.result c.from_residual.ensures.1 in
    fails c.args.types.now item_marks c.args.items.now c.each.item-index c.item-item.result _ c.each-test.true c.item-item.is c.each.invariant e c.from_residual.result
    (p.1 ∙ ap (λ (x : Failure Fault). Err x) p.2) c.in_err-item_within.ensures

pub each-preserved : goal.each-preserved
each-preserved c = goes_on c.args.types.now item_marks c.args.items.now c.each.item-index c.item-item.result _ c.each-test.true c.item-item.is c.each.invariant c.in_ok-item_within.ensures
