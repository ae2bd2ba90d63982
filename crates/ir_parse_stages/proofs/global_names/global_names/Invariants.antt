use Rattle.std.proofs.Common.{◌≡◌, [], drop}
use Rattle.ir_parse_stages.proofs.Runs.{names}
use Rattle.ir_parse_stages.specs.MarkViews.{marks}
use Rattle.ir_parse_stages.proofs.global_names.global_names.Given as goal

abbrev pub invariant-each : goal.invariant-each
invariant-each l = names l.names (marks (drop l.mark-index l.rows)) ≡ names [] (marks l.rows)
