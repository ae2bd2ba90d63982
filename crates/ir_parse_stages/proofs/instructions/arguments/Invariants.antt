use Rattle.std.proofs.Common.{◌≡◌, ◌++◌, drop}
use Rattle.ir_parse_names.specs.Marks.{all, operand_marks}
use Rattle.ir_parse_stages.proofs.instructions.arguments.Given as goal

abbrev pub invariant-each : goal.invariant-each
invariant-each l = l.marks ++ all (λ a. operand_marks a.operand) (drop l.argument-index l.given) ≡ l.fn.marks ++ all (λ a. operand_marks a.operand) l.given
