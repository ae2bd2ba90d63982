use Rattle.std.proofs.Common.{◌≡◌, ◌≤◌, drop, max}
use Rattle.ir_parse_sizes.specs.Measures.{widest}
use Rattle.ir_parse_sizes.proofs.measure.widest.Given as goal

abbrev pub invariant-each : goal.invariant-each
invariant-each l = record {
  rest : max l.most (widest (drop l.part-index l.parts)) ≡ widest l.parts;
  least : 1 ≤ l.most;
}
