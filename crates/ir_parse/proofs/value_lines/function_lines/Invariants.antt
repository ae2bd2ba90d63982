use Rattle.std.proofs.Common.{◌≡◌, ◌++◌, flat_map, drop}
use Rattle.ir_parse.specs.Lines.{block_lines}
use Rattle.ir_parse.proofs.value_lines.function_lines.Given as goal

abbrev pub invariant-each : goal.invariant-each
invariant-each l = l.lines ++ flat_map block_lines (drop l.block-index l.blocks) ≡ flat_map block_lines l.blocks
