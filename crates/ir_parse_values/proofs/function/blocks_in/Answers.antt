use Rattle.std.proofs.Common.{◌+◌, List, Ok, append-nil, drop, sym, ap, ◌∙◌}
use Rattle.std.proofs.lemmas.List.{drop_all}
use Rattle.ir_parse_parts.specs.declared.raw.Block as written
use Rattle.ir_tree.specs.declared.block.Block.{Block}
use Rattle.ir_parse_names.proofs.Each.{here, in_front}
use Rattle.ir_parse_values.specs.Blocks.{blocks_in}
use Rattle.ir_parse_values.proofs.BlockLoops.{one_block}
use Rattle.ir_parse_values.proofs.Bodies.{or_else}
use Rattle.ir_parse_values.proofs.function.blocks_in.Goals as goal

pub each-preserved : goal.each-preserved
each-preserved c =
    let left = drop (c.each.block-index + 1) c.args.blocks.now in
    ap (λ (out : List Block). in_front out (blocks_in c.args.types.now c.args.locals.now c.in_ok-next.next left)) c.in_ok-push.ensures.ok
    ∙ sym (ap (λ (bs : List written.Block). in_front c.each.out (blocks_in c.args.types.now c.args.locals.now c.each.next bs)) (here c.args.blocks.now c.each.block-index c.block-item.result c.each-test.true c.block-item.is)
    ∙ one_block c.args.types.now c.args.locals.now c.each.out c.each.next c.in_ok-next.next c.block-item.result left c.in_ok-made.made c.in_ok-made.ensures (ap (or_else c.each.next) c.in_ok-next.ensures))
    ∙ c.each.invariant

pub returns : goal.returns
returns c =
    sym c.each.invariant ∙ ap (λ (bs : List written.Block). in_front c.each.out (blocks_in c.args.types.now c.args.locals.now c.each.next bs)) (drop_all c.each.block-index c.args.blocks.now c.each-test.false)
    ∙ ap (λ (out : List Block). Ok out) (append-nil c.each.out)
