use Rattle.std.proofs.Common.{◌≡◌, drop}
use Rattle.ir_parse_names.specs.Numbering.{with_lines}
use Rattle.ir_parse_values.proofs.numbering.with_lines.Given as goal

abbrev pub invariant-each : goal.invariant-each
invariant-each l = with_lines l.locals (drop l.line-index l.lines) ≡ with_lines l.fn.locals l.lines
