use Rattle.std.proofs.Common.{◌≡◌}
use Rattle.ir_parse_names.specs.Types.{chased, shape_at}
use Rattle.ir_parse_names.proofs.types.TypeNames.chase.Given as goal

abbrev pub invariant-each : goal.invariant-each
invariant-each l = chased l.left l.self l.line (shape_at l.self l.place) ≡ chased l.most l.self l.first_line (shape_at l.self l.first)

abbrev pub decreases-each : goal.decreases-each
decreases-each l = l.left
