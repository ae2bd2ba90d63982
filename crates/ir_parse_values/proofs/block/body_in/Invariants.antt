use Rattle.std.proofs.Common.{◌≡◌, drop}
use Rattle.ir_parse_names.specs.Bodies.{lines_in}
use Rattle.ir_parse_values.specs.Blocks.{body_in}
use Rattle.ir_parse_values.proofs.Bodies.{onto}
use Rattle.ir_parse_values.proofs.block.body_in.Given as goal

abbrev pub invariant-each : goal.invariant-each
invariant-each l = onto l.body (lines_in l.types l.locals l.next (drop l.line-index l.lines)) ≡ body_in l.types l.locals l.first l.lines
