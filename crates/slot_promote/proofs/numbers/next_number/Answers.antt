use Rattle.std.proofs.Common.{◌≡◌, ◌∙◌, List, map, max, flat_map, ap, arith}
use Rattle.ir_tree.specs.Flow.{definitions, room}
use Rattle.ir_tree.specs.declared.block.Block.{Block}
use Rattle.ir_tree.specs.declared.function.Param.{Param}
use Rattle.slot_promote.proofs.Loops.{all_above}
use Rattle.slot_promote.proofs.numbers.next_number.Goals as goal

pub returns : goal.returns
returns c =
    let greatest : c.max.result ≡ max c.above_params-params.result c.above_blocks-blocks.result = omega (arith, c.max.ensures) in
    all_above c.args.f.now c.above_params-params.result c.above_blocks-blocks.result c.max.result
    (c.above_params-params.ensures ∙ ap (λ (ps : List Param). room (map (λ p. p.local) ps)) c.as_slice.ensures)
    (c.above_blocks-blocks.ensures ∙ ap (λ (bs : List Block). max (room (flat_map definitions bs)) (room (map (λ b. b.number) bs))) c.as_slice-2.ensures) greatest
