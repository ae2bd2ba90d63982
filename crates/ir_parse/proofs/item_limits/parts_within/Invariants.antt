use Rattle.std.proofs.Common.{◌≡◌, drop}
use Rattle.ir_parse_names.specs.Marks.{all, part_marks}
use Rattle.ir_parse_names.specs.Stages.{marks_within}
use Rattle.ir_parse.proofs.item_limits.parts_within.Given as goal

abbrev pub invariant-each : goal.invariant-each
invariant-each l = marks_within l.types (all part_marks (drop l.part-index l.parts)) ≡ marks_within l.types (all part_marks l.parts)
