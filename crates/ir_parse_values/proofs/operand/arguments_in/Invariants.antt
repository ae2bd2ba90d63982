use Rattle.std.proofs.Common.{◌≡◌, drop}
use Rattle.ir_parse_names.specs.Bodies.{argument_in}
use Rattle.ir_parse_names.specs.Resolving.{each}
use Rattle.ir_parse_names.proofs.Each.{in_front}
use Rattle.ir_parse_values.proofs.operand.arguments_in.Given as goal

abbrev pub invariant-each : goal.invariant-each
invariant-each l = in_front l.out (each (argument_in l.types l.locals) (drop l.argument-index l.arguments)) ≡ each (argument_in l.types l.locals) l.arguments
