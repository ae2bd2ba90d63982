use Rattle.std.proofs.Common.{◌≡◌, ◌≤◌, ◌^◌, drop}
use Rattle.ir_parse_sizes.specs.Measures.{ends, AreSmall}
use Rattle.ir_parse_sizes.proofs.measure.end_of.Given as goal

abbrev pub invariant-each : goal.invariant-each
invariant-each l = record {
  rest : ends l.packed l.end (drop l.part-index l.parts) ≡ ends l.packed 0 l.parts;
  small : AreSmall (drop l.part-index l.parts);
  near : l.end ≤ 2 ^ 31;
}
