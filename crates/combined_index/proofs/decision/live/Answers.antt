use Rattle.std.proofs.Common.{sym, subst}
use Rattle.combined_index.specs.Liveness.{AreLive}
use Rattle.combined_index.proofs.Lacking.{all-exported, none-undefined}
use Rattle.combined_index.proofs.Sources.{are-referred}
use Rattle.combined_index.proofs.Told.{passed_on, undefined_refused, unexported_refused}
use Rattle.combined_index.proofs.decision.live.Goals as goal

pub check_defined-requires-clause-referred : goal.check_defined-requires-clause-referred
check_defined-requires-clause-referred c = are-referred c.args.index.now c.args.roots.now c.in_ok-live.live c.in_ok-live.ensures

pub returns-in_err-check_defined : goal.returns-in_err-check_defined
returns-in_err-check_defined c =
    passed_on c.args.index.now c.args.roots.now c.from_residual-in_err-check_defined.result c.in_err-check_defined.field-0.0 c.from_residual-in_err-check_defined.ensures.1
    (undefined_refused c.args.index.now c.args.roots.now c.in_ok-live.live c.in_ok-live.ensures c.in_err-check_defined.field-0.0 c.in_err-check_defined.ensures)

pub returns-in_err-check_exported : goal.returns-in_err-check_exported
returns-in_err-check_exported c =
    passed_on c.args.index.now c.args.roots.now c.from_residual-in_err-check_exported.result c.in_err-check_exported.field-0.0 c.from_residual-in_err-check_exported.ensures.1
    (unexported_refused c.args.index.now c.args.roots.now c.in_ok-live.live c.in_ok-live.ensures
    (none-undefined c.args.index.now c.args.roots.now c.in_ok-live.live c.in_ok-live.ensures c.in_ok-check_defined.ensures) c.in_err-check_exported.field-0.0 c.in_err-check_exported.ensures)

pub returns : goal.returns
returns c = (
  subst (AreLive c.args.index.now c.args.roots.now) (sym c.of.ensures) c.in_ok-live.ensures,
  none-undefined c.args.index.now c.args.roots.now c.in_ok-live.live c.in_ok-live.ensures c.in_ok-check_defined.ensures,
  all-exported c.args.index.now c.args.roots.now c.in_ok-check_exported.ensures,
)
