use Rattle.ir_parse_names.specs.Heads.{AreHeads}
use Rattle.ir_parse_names.proofs.heads.heads_of.Given as goal

abbrev pub invariant-each : goal.invariant-each
invariant-each l = AreHeads l.names 0 l.heads.items
