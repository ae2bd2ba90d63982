use Rattle.std.proofs.Common.{◌≡◌, ◌++◌, drop}
use Rattle.ir_parse_names.specs.Marks.{all, part_marks}
use Rattle.ir_parse_stages.proofs.items.all_parts.Given as goal

abbrev pub invariant-each : goal.invariant-each
invariant-each l = l.marks ++ all part_marks (drop l.part-index l.parts) ≡ l.fn.marks ++ all part_marks l.parts
