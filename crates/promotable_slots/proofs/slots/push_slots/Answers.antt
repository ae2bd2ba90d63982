use Rattle.std.proofs.Common.{◌∙◌, refl}
use Rattle.ir_tree.specs.declared.instr.Line.{Line}
use Rattle.promotable_slots.specs.Slots.{line_slots, slot_made}
use Rattle.ir_edit.proofs.Stepping.{given_more}
use Rattle.promotable_slots.proofs.slots.push_slots.Goals as goal

pub loop-line-preserved : goal.loop-line-preserved
loop-line-preserved c =
    given_more (λ (l : Line). slot_made l.local l.instr) line_slots (λ x xs. refl) c.args.lines.now c.loop-line.line-index c.line-item.result c.loop-line.found.items c.push_slot.new.found.items c.loop-line-test.true c.line-item.is c.in_ok-push_slot.ensures
    ∙ c.loop-line.invariant
