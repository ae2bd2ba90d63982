use Rattle.std.proofs.Common.{◌≡◌, ◌++◌, drop}
use Rattle.ir_parse_values.specs.Blocks.{params_from}
use Rattle.ir_parse_values.proofs.declaration.params_in.Given as goal

abbrev pub invariant-each : goal.invariant-each
invariant-each l = l.out ++ params_from l.next (drop l.param-index l.written) ≡ params_from 0 l.written
