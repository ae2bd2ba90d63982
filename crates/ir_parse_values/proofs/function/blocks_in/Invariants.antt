use Rattle.std.proofs.Common.{◌≡◌, drop}
use Rattle.ir_parse_values.specs.Blocks.{blocks_in}
use Rattle.ir_parse_names.proofs.Each.{in_front}
use Rattle.ir_parse_values.proofs.function.blocks_in.Given as goal

abbrev pub invariant-each : goal.invariant-each
invariant-each l = in_front l.out (blocks_in l.types l.locals l.next (drop l.block-index l.blocks)) ≡ blocks_in l.types l.locals l.first l.blocks
