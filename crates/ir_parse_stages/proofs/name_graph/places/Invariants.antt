use Rattle.std.proofs.Common.{◌≡◌, [], drop}
use Rattle.ir_parse_stages.specs.MarkViews.{marks}
use Rattle.ir_parse_stages.proofs.Runs.{row}
use Rattle.ir_parse_stages.proofs.name_graph.places.Given as goal

abbrev pub invariant-each : goal.invariant-each
invariant-each l = row l.types l.row.items (marks (drop l.mark-index l.rows)) ≡ row l.types [] (marks l.rows)
