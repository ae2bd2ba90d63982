use Rattle.std.proofs.Common.{◌≡◌, ◌++◌, drop}
use Rattle.fact_sources.specs.AtPoints.{lines_at}
use Rattle.fact_sources.proofs.at_points.lines_at.Given as goal

abbrev pub invariant-loop-line : goal.invariant-loop-line
invariant-loop-line l = l.rows ++ lines_at l.facts l.point (drop l.line-index l.lines) ≡ lines_at l.facts l.first l.lines
