use Rattle.std.proofs.Common.{◌≡◌, drop, max}
use Rattle.ir_parse_sizes.specs.Measures.{deepest_of}
use Rattle.ir_parse_sizes.proofs.measure.deepest.Given as goal

abbrev pub invariant-each : goal.invariant-each
invariant-each l = max l.most (deepest_of (drop l.part-index l.parts)) ≡ deepest_of l.parts
