use Rattle.std.proofs.Common.{◌+◌, drop, sym, ap, ◌∙◌}
use Rattle.ir_facts.specs.FactFlow.{phi_in}
use Rattle.ir_facts.proofs.Walking.{phi_passed, phi_met}
use Rattle.fact_sources.proofs.Stepping.{cut_at}
use Rattle.ir_facts.proofs.flow.phi_of.Goals as goal

pub loop-block-preserved : goal.loop-block-preserved
loop-block-preserved c =
    let blocks = c.args.blocks.now in
    let i = c.loop-block.block-index in
    let block = c.block-item.result in
    phi_passed c.args.local block (drop (i + 1) blocks) (drop i blocks) (cut_at blocks i block c.loop-block-test.true c.block-item.is)
    (sym (c.in_default.ensures ∙ ap (phi_in c.args.local) c.as_slice.ensures))
    ∙ c.loop-block.invariant

pub returns-in-Some : goal.returns-in-Some
returns-in-Some c =
    let blocks = c.args.blocks.now in
    let i = c.loop-block.block-index in
    let block = c.block-item.result in
    phi_met c.args.local block c.in-Some.phi.now (drop (i + 1) blocks) (drop i blocks) (cut_at blocks i block c.loop-block-test.true c.block-item.is)
    (sym (c.in-Some.ensures ∙ ap (phi_in c.args.local) c.as_slice.ensures))
    ∙ c.loop-block.invariant
