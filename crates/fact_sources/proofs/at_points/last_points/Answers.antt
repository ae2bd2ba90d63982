use Rattle.std.proofs.Common.{ℕ, ◌+◌, drop, ap, ◌∙◌}
use Rattle.fact_sources.proofs.Stepping.{cut_at}
use Rattle.fact_sources.proofs.Walking.{point_placed}
use Rattle.fact_sources.proofs.at_points.last_points.Goals as goal

pub loop-block-preserved : goal.loop-block-preserved
loop-block-preserved c = λ n.
    let blocks = c.args.blocks.now in
    let i = c.loop-block.block-index in
    let block = c.block-item.result in
    point_placed c.loop-block.point c.in_ok-end.end c.in_ok-next.next n block (drop (i + 1) blocks) (drop i blocks) _ _ (cut_at blocks i block c.loop-block-test.true c.block-item.is)
    (c.in_ok-end.ensures ∙ ap (λ (m : ℕ). c.loop-block.point + m) c.len.ensures) c.in_ok-next.ensures (c.in_ok-insert.ensures.updates.0 n)
    ∙ c.loop-block.invariant n
