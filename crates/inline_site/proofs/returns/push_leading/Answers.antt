use Rattle.std.proofs.Common.{◌∙◌, drop, map}
use Rattle.std.proofs.lemmas.List.{at_drop_all}
use Rattle.inline_site.specs.Inlined.{leading_to}
use Rattle.inline_site.proofs.Elements.{next_row, none_left}
use Rattle.inline_site.proofs.returns.push_leading.Goals as goal

pub loop-block-preserved : goal.loop-block-preserved
loop-block-preserved c =
    next_row (leading_to c.args.behind) c.args.copy.now c.loop-block.block-index c.block-item.result c.loop-block.blocks.items c.push.new.self.items c.in_ok-block.block c.loop-block-test.true c.block-item.is
    c.in_ok-block.ensures c.in_ok-push.ensures.items
    ∙ c.loop-block.invariant

pub returns : goal.returns
returns c =
    none_left c.loop-block.blocks.items (map (leading_to c.args.behind) (drop c.loop-block.block-index c.args.copy.now)) _
    (at_drop_all (map (leading_to c.args.behind)) c.args.copy.now c.loop-block.block-index c.loop-block-test.false) c.loop-block.invariant
