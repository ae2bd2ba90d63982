use Rattle.std.proofs.Common.{◌≡◌, drop}
use Rattle.ir_parse_names.specs.Numbering.{with_blocks}
use Rattle.ir_parse_values.proofs.numbering.with_blocks.Given as goal

abbrev pub invariant-each : goal.invariant-each
invariant-each l = with_blocks l.locals (drop l.block-index l.blocks) ≡ with_blocks l.fn.locals l.blocks
