use Rattle.std.proofs.Common.{◌+◌, drop, sym, ap, ◌∙◌}
use Rattle.ir_parse_names.specs.Numbering.{with_blocks}
use Rattle.ir_parse_names.proofs.Each.{here}
use Rattle.ir_parse_values.proofs.Following.{follows}
use Rattle.ir_parse_values.proofs.numbering.with_blocks.Goals as goal

pub each-preserved : goal.each-preserved
each-preserved c =
    sym (ap (with_blocks c.each.locals) (here c.args.blocks.now c.each.block-index c.block-item.result c.each-test.true c.block-item.is) ∙ follows (λ k. with_blocks k (drop (c.each.block-index + 1) c.args.blocks.now)) c.in_ok-with_block.ensures)
    ∙ c.each.invariant
