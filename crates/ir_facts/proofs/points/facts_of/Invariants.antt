use Rattle.std.proofs.Common.{◌≡◌, ◌++◌, drop, map}
use Rattle.ir_facts.specs.Points.{EachIsFact}
use Rattle.ir_facts.proofs.points.facts_of.Given as goal

abbrev pub invariant-loop-pair : goal.invariant-loop-pair
invariant-loop-pair l = record {
  listed : map (λ t. (t.local, t.value)) l.facts.items ++ drop l.pair-index l.pairs ≡ l.pairs;
  each : EachIsFact l.f l.facts.items;
}
