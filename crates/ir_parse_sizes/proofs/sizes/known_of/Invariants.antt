use Rattle.ir_parse_sizes.specs.Measures.{AreKnown, AreKnownSmall}
use Rattle.ir_parse_sizes.proofs.sizes.known_of.Given as goal

abbrev pub invariant-each : goal.invariant-each
invariant-each l = record {
  known : AreKnown l.names l.known.items;
  small : AreKnownSmall l.known.items;
}
