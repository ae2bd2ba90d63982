use Rattle.std.proofs.Common.{◌≡◌, drop}
use Rattle.ir_parse_names.specs.Globals.{no_globals}
use Rattle.ir_parse_names.specs.Stages.{all_named}
use Rattle.ir_parse_stages.specs.MarkViews.{marks}
use Rattle.ir_parse_stages.proofs.global_names.all_named.Given as goal

abbrev pub invariant-each : goal.invariant-each
invariant-each l = all_named l.names l.globals (marks (drop l.mark-index l.rows)) ≡ all_named l.names no_globals (marks l.rows)
