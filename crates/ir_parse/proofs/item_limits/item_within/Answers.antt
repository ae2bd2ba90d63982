use Rattle.std.proofs.Common.{sym, subst}
use Rattle.ir_parse_parts.specs.declared.raw.Item.{Item}
use Rattle.ir_parse_names.specs.Marks.{item_marks}
use Rattle.ir_parse_names.specs.Resolving.{ResolvesTo}
use Rattle.ir_parse_names.specs.Stages.{Passes, marks_within}
use Rattle.ir_parse_sizes.proofs.Within.{type_name_passes}
use Rattle.ir_parse.proofs.item_limits.item_within.Goals as goal

pub returns-in-Type : goal.returns-in-Type
returns-in-Type c =
    let types = c.args.types.now in
    let settled = subst (λ (q : Passes). ResolvesTo {X = Unit {0}} {Y = Unit {0}} (λ u. u) c.typed_within.result q) (sym (type_name_passes types c.in-Type.field-0 c.in-Type.typed)) c.typed_within.ensures in
    subst (λ (i : Item). ResolvesTo {X = Unit {0}} {Y = Unit {0}} (λ u. u) c.typed_within.result (marks_within types (item_marks i))) (sym c.in-Type.is) settled
