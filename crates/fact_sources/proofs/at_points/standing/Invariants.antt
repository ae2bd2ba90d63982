use Rattle.std.proofs.Common.{◌≡◌, drop}
use Rattle.fact_sources.specs.AtPoints.{standing}
use Rattle.fact_sources.proofs.at_points.standing.Given as goal

abbrev pub invariant-loop-fact : goal.invariant-loop-fact
invariant-loop-fact l = standing (drop l.fact-index l.facts) l.point l.operand ≡ standing l.facts l.point l.operand
