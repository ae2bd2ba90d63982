use Rattle.std.proofs.Common.{◌<◌, ◌≤◌, ℕ}
use Rattle.ir_parse_stages.specs.Circles.{rank}
use Rattle.ir_parse_stages.specs.Searching.{at}
use Rattle.ir_parse_stages.proofs.circles.are_at_most.Given as goal

abbrev pub invariant-each : goal.invariant-each
invariant-each l = (k : ℕ) → k < l.place-index → rank l.ranks (at l.row k) ≤ l.most
