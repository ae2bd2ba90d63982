use Rattle.std.proofs.Common.{List, ap, ◌∙◌}
use Rattle.ir_tree.specs.declared.block.Block.{Block}
use Rattle.fact_sources.specs.AtPoints.{blocks_at, last_point}
use Rattle.fact_sources.proofs.at_points.function_at.Goals as goal

pub returns : goal.returns
returns c =
    let facts = c.args.facts.now in
    let blocks = c.in_ok-blocks.ensures
    ∙ (λ i. blocks_at facts (λ n. c.in_ok-last.ensures n i) 0 c.as_slice-2.result.now)
    ∙ ap (λ (bs : List Block). blocks_at facts (last_point 0 bs) 0 c.as_slice-2.result.now) c.as_slice.ensures
    ∙ ap (λ (bs : List Block). blocks_at facts (last_point 0 c.args.f.now.blocks) 0 bs) c.as_slice-2.ensures in
    c.in_ok-g.ensures ∙ (λ i. record c.args.f.now { blocks = blocks i })
