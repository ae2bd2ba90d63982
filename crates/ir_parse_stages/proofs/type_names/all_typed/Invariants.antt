use Rattle.std.proofs.Common.{◌≡◌, [], drop}
use Rattle.ir_parse_names.specs.TypeNames.{all_typed}
use Rattle.ir_parse_stages.specs.MarkViews.{marks}
use Rattle.ir_parse_stages.proofs.type_names.all_typed.Given as goal

abbrev pub invariant-each : goal.invariant-each
invariant-each l = all_typed l.all l.types (marks (drop l.mark-index l.rows)) ≡ all_typed l.all [] (marks l.rows)
