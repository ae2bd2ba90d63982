use Rattle.std.proofs.Common.{◌≡◌, drop}
use Rattle.ir_parse_names.specs.Marks.{all, operand_marks}
use Rattle.ir_parse_names.specs.Stages.{marks_within}
use Rattle.ir_parse_sizes.proofs.instruction_limits.arguments_within.Given as goal

abbrev pub invariant-each : goal.invariant-each
invariant-each l = marks_within l.types (all (λ a. operand_marks a.operand) (drop l.argument-index l.given)) ≡ marks_within l.types (all (λ a. operand_marks a.operand) l.given)
