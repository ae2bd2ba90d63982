use Rattle.std.proofs.Common.{◌∙◌}
use Rattle.symbol_resolve.proofs.Told.{all_passed, definitions_refused, kinds_refused, no_duplicate, passed_on}
use Rattle.symbol_resolve.proofs.linked.resolve.Goals as goal

pub returns-in_err-check_names : goal.returns-in_err-check_names
returns-in_err-check_names c =
    passed_on c.args.modules.now c.from_residual-in_err-check_names.result c.in_err-check_names.field-0.0 c.from_residual-in_err-check_names.ensures.1
    (definitions_refused c.args.modules.now c.in_ok-table.table.entries c.in_ok-table.ensures c.in_ok-check_targets.ensures c.in_err-check_names.field-0.0 c.in_err-check_names.ensures)

pub returns-in_err-check_names-2 : goal.returns-in_err-check_names-2
returns-in_err-check_names-2 c =
    passed_on c.args.modules.now c.from_residual-in_err-check_names-2.result c.in_err-check_names-2.field-0.0 c.from_residual-in_err-check_names-2.ensures.1
    (kinds_refused c.args.modules.now c.in_ok-table.table.entries c.in_ok-table.ensures c.in_ok-check_targets.ensures
    (no_duplicate c.args.modules.now c.in_ok-table.table.entries c.in_ok-table.ensures c.in_ok-check_names.ensures) c.in_err-check_names-2.field-0.0 c.in_err-check_names-2.ensures)

pub returns : goal.returns
returns c =
    let passed = all_passed c.args.modules.now c.in_ok-table.table.entries c.in_ok-table.ensures c.in_ok-check_targets.ensures c.in_ok-check_names.ensures c.in_ok-check_names-2.ensures in
    (passed.0, c.of.ensures ∙ passed.1)
