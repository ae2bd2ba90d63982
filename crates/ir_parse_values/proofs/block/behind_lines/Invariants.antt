use Rattle.std.proofs.Common.{◌≡◌, drop}
use Rattle.ir_parse_names.specs.Bodies.{behind_lines}
use Rattle.ir_parse_values.proofs.block.behind_lines.Given as goal

abbrev pub invariant-each : goal.invariant-each
invariant-each l = behind_lines l.next (drop l.line-index l.lines) ≡ behind_lines l.first l.lines
