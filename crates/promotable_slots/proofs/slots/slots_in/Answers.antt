use Rattle.std.proofs.Common.{◌++◌, List, ◌∙◌, refl, ap}
use Rattle.ir_tree.specs.declared.block.Block.{Block}
use Rattle.ir_tree.specs.declared.instr.Line.{Line}
use Rattle.promotable_slots.specs.Slots.{line_slots, slots}
use Rattle.ir_edit.proofs.Stepping.{given_more}
use Rattle.promotable_slots.proofs.slots.slots_in.Goals as goal

pub loop-block-preserved : goal.loop-block-preserved
loop-block-preserved c =
    given_more (λ (b : Block). line_slots b.lines) slots (λ x xs. refl) c.args.blocks.now c.loop-block.block-index c.block-item.result c.loop-block.found.items c.push_slots.new.found.items c.loop-block-test.true c.block-item.is (c.in_ok-push_slots.ensures ∙ ap (λ (l : List Line). c.loop-block.found.items ++ line_slots l) c.as_slice.ensures)
    ∙ c.loop-block.invariant
