use Rattle.std.proofs.Common.{◌≡◌, drop}
use Rattle.ir_parse_names.specs.Marks.{all, block_marks}
use Rattle.ir_parse_names.specs.Stages.{marks_within}
use Rattle.ir_parse_sizes.proofs.instruction_limits.blocks_within.Given as goal

abbrev pub invariant-each : goal.invariant-each
invariant-each l = marks_within l.types (all block_marks (drop l.block-index l.rows)) ≡ marks_within l.types (all block_marks l.rows)
