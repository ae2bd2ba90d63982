use Rattle.std.proofs.Common.{◌≡◌, ◌++◌, drop}
use Rattle.ir_parse_names.specs.Marks.{all, instr_marks}
use Rattle.ir_parse_stages.proofs.instructions.lines.Given as goal

abbrev pub invariant-each : goal.invariant-each
invariant-each l = l.marks ++ all (λ l. instr_marks l.instr) (drop l.line-index l.rows) ≡ l.fn.marks ++ all (λ l. instr_marks l.instr) l.rows
