use Rattle.std.proofs.Common.{◌<◌, ◌≤◌, ℕ}
use Rattle.ir_parse_names.specs.Walks.{next}
use Rattle.ir_parse_stages.specs.Circles.{rank}
use Rattle.ir_parse_stages.specs.Searching.{Among}
use Rattle.ir_parse_stages.proofs.circles.never_rises.Given as goal

abbrev pub invariant-each : goal.invariant-each
invariant-each l = (p : ℕ) → p < l.place → (q : ℕ) → Among q (next l.graph p) → rank l.ranks q ≤ rank l.ranks p
