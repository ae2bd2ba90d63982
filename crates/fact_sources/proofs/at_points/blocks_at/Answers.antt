use Rattle.std.proofs.Common.{ℕ, List, ◌++◌, ◌+◌, drop, refl, ap, ◌∙◌}
use Rattle.std.specs.BTreeMap.{get}
use Rattle.std.specs.Ordering.{nat_cmp}
use Rattle.ir_tree.specs.declared.block.Block.{Block}
use Rattle.fact_sources.specs.AtPoints.{blocks_at}
use Rattle.fact_sources.proofs.Stepping.{cut_at, walked}
use Rattle.fact_sources.proofs.Walking.{block_at_pushed}
use Rattle.fact_sources.proofs.at_points.blocks_at.Goals as goal

pub loop-block-init : goal.loop-block-init
loop-block-init c = ap (λ (bs : List Block). bs ++ blocks_at c.args.facts.now (get nat_cmp c.args.last.now) 0 c.args.blocks.now) c.new-rows.ensures

pub loop-block-preserved : goal.loop-block-preserved
loop-block-preserved c =
    let blocks = c.args.blocks.now in
    let i = c.loop-block.block-index in
    let block = c.block-item.result in
    block_at_pushed c.args.facts.now (get nat_cmp c.args.last.now) c.loop-block.point c.in_ok-end.end c.in_ok-next.next block c.in_ok-made.made (drop (i + 1) blocks) (drop i blocks)
    c.loop-block.rows c.push.new.self (cut_at blocks i block c.loop-block-test.true c.block-item.is)
    (c.in_ok-end.ensures ∙ ap (λ (m : ℕ). c.loop-block.point + m) c.len.ensures) c.in_ok-next.ensures c.in_ok-made.ensures c.in_ok-push.ensures.ok
    ∙ c.loop-block.invariant

pub returns : goal.returns
returns c =
    walked (blocks_at c.args.facts.now (get nat_cmp c.args.last.now) c.loop-block.point) c.args.blocks.now c.loop-block.block-index c.loop-block.rows refl c.loop-block-test.false
    ∙ c.loop-block.invariant
