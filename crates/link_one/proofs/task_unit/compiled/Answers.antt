use Rattle.std.proofs.Common.{◌∙◌, ap}
use Rattle.std.proofs.lemmas.Result.{IfOk-weaker}
use Rattle.emit.specs.Joins.{IsInNameOrder}
use Rattle.lto_task.specs.Tasks.{task_view}
use Rattle.importer.specs.Tables.{values}
use Rattle.link_one.specs.TaskUnits.{IsTaskUnit}
use Rattle.link_one.proofs.task_unit.compiled.Goals as goal

pub kept_pieces-requires-clause-defined : goal.kept_pieces-requires-clause-defined
kept_pieces-requires-clause-defined c = ap values c.deref.ensures.value ∙ c.in_ok-definitions.ensures

pub returns : goal.returns
returns c =
    let kept = c.in_ok-kept.kept in
    IfOk-weaker c.in_name_order.result (IsInNameOrder kept) (IsTaskUnit (task_view c.args.task.now))
    (λ unit order. record { kept = kept; are_kept = c.in_ok-kept.ensures; order = order }) c.in_name_order.ensures
