use Rattle.std.proofs.Common.{◌≡◌, drop}
use Rattle.ir_parse_names.specs.Marks.{all, operand_marks}
use Rattle.ir_parse_names.specs.Stages.{marks_within}
use Rattle.ir_parse_sizes.proofs.instruction_limits.entries_within.Given as goal

abbrev pub invariant-each : goal.invariant-each
invariant-each l = marks_within l.types (all (λ i. operand_marks i.value) (drop l.entry-index l.incoming)) ≡ marks_within l.types (all (λ i. operand_marks i.value) l.incoming)
