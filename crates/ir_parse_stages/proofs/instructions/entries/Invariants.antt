use Rattle.std.proofs.Common.{◌≡◌, ◌++◌, drop}
use Rattle.ir_parse_names.specs.Marks.{all, operand_marks}
use Rattle.ir_parse_stages.proofs.instructions.entries.Given as goal

abbrev pub invariant-each : goal.invariant-each
invariant-each l = l.marks ++ all (λ i. operand_marks i.value) (drop l.entry-index l.incoming) ≡ l.fn.marks ++ all (λ i. operand_marks i.value) l.incoming
