use Rattle.std.proofs.Common.{◌≡◌, drop}
use Rattle.ir_parse_names.specs.Marks.{all, instr_marks}
use Rattle.ir_parse_names.specs.Stages.{marks_within}
use Rattle.ir_parse_sizes.proofs.instruction_limits.lines_within.Given as goal

abbrev pub invariant-each : goal.invariant-each
invariant-each l = marks_within l.types (all (λ l. instr_marks l.instr) (drop l.line-index l.rows)) ≡ marks_within l.types (all (λ l. instr_marks l.instr) l.rows)
