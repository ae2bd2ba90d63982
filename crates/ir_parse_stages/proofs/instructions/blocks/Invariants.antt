use Rattle.std.proofs.Common.{◌≡◌, ◌++◌, drop}
use Rattle.ir_parse_names.specs.Marks.{all, block_marks}
use Rattle.ir_parse_stages.proofs.instructions.blocks.Given as goal

abbrev pub invariant-each : goal.invariant-each
invariant-each l = l.marks ++ all block_marks (drop l.block-index l.rows) ≡ l.fn.marks ++ all block_marks l.rows
