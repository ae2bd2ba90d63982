use Rattle.std.proofs.Common.{◌≡◌, [], drop}
use Rattle.ir_parse_stages.proofs.Runs.{firsts}
use Rattle.ir_parse_stages.specs.MarkViews.{marks}
use Rattle.ir_parse_stages.proofs.type_names.first_types.Given as goal

abbrev pub invariant-each : goal.invariant-each
invariant-each l = firsts l.types (marks (drop l.mark-index l.rows)) ≡ firsts [] (marks l.rows)
