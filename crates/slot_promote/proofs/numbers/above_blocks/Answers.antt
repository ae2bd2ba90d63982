use Rattle.std.proofs.Common.{◌≡◌, ◌+◌, ◌∙◌, ℕ, List, map, max, flat_map, drop, ap, arith}
use Rattle.ir_tree.specs.Flow.{definitions, results, room}
use Rattle.ir_tree.specs.declared.instr.Line.{Line}
use Rattle.ir_tree.specs.declared.instr.Phi.{Phi}
use Rattle.slot_promote.proofs.Loops.{one_block_above}
use Rattle.slot_promote.proofs.numbers.above_blocks.Goals as goal

pub loop-block-preserved : goal.loop-block-preserved
loop-block-preserved c =
    let new : c.max-next.result ≡ max (max (max c.loop-block.next c.above_phis-phis.result) c.above_results-results.result) (c.block-item.result.number + 1) = omega (arith, c.max.ensures, c.max-in-loop-block.ensures, c.max-next.ensures) in
    ap (λ (k : ℕ). max k (max (room (flat_map definitions (drop (c.loop-block.block-index + 1) c.args.blocks.now))) (room (map (λ b. b.number) (drop (c.loop-block.block-index + 1) c.args.blocks.now))))) new
    ∙ one_block_above c.args.blocks.now c.loop-block.block-index c.loop-block.next c.above_phis-phis.result c.above_results-results.result _ c.block-item.result c.loop-block-test.true c.block-item.is
    (c.above_phis-phis.ensures ∙ ap (λ (ps : List Phi). room (map (λ p. p.local) ps)) c.as_slice.ensures)
    (c.above_results-results.ensures ∙ ap (λ (ls : List Line). room (results ls)) c.as_slice-in-loop-block.ensures)
    c.loop-block.invariant
