use Rattle.std.proofs.Common.{◌≡◌, drop}
use Rattle.ir_parse_names.specs.Bodies.{case_in}
use Rattle.ir_parse_names.specs.Resolving.{each}
use Rattle.ir_parse_names.proofs.Each.{in_front}
use Rattle.ir_parse_values.proofs.terminator.cases_in.Given as goal

abbrev pub invariant-each : goal.invariant-each
invariant-each l = in_front l.out (each (case_in l.locals) (drop l.case-index l.cases)) ≡ each (case_in l.locals) l.cases
