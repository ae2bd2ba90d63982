use Rattle.std.proofs.Common.{ℕ, ◌+◌, List, ◌++◌, drop, flat_map, append_assoc, append-nil, sym, ap, ◌∙◌}
use Rattle.std.proofs.lemmas.List.{drop_all}
use Rattle.ir_parse_parts.specs.declared.raw.Block.{Block}
use Rattle.ir_parse_names.proofs.Each.{here}
use Rattle.ir_parse.specs.Lines.{block_lines}
use Rattle.ir_parse.proofs.value_lines.function_lines.Goals as goal

pub each-preserved : goal.each-preserved
each-preserved c =
    ap (λ (ls : List ℕ). ls ++ flat_map block_lines (drop (c.each.block-index + 1) c.args.blocks.now)) c.in_ok-push_block.ensures
    ∙ append_assoc c.each.lines (block_lines c.block-item.result) (flat_map block_lines (drop (c.each.block-index + 1) c.args.blocks.now))
    ∙ sym (ap (λ (bs : List Block). c.each.lines ++ flat_map block_lines bs) (here c.args.blocks.now c.each.block-index c.block-item.result c.each-test.true c.block-item.is))
    ∙ c.each.invariant

pub returns : goal.returns
returns c = sym (sym c.each.invariant ∙ ap (λ (bs : List Block). c.each.lines ++ flat_map block_lines bs) (drop_all c.each.block-index c.args.blocks.now c.each-test.false) ∙ append-nil c.each.lines)
