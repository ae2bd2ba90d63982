use Rattle.std.proofs.Common.{◌≡◌, drop}
use Rattle.ir_parse_names.specs.Marks.{marks_of}
use Rattle.ir_parse_names.specs.Stages.{marks_within}
use Rattle.ir_parse.proofs.item_limits.items_within.Given as goal

abbrev pub invariant-each : goal.invariant-each
invariant-each l = marks_within l.types (marks_of (drop l.item-index l.items)) ≡ marks_within l.types (marks_of l.items)
