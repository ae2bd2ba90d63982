use Rattle.std.proofs.Common.{◌+◌, ◌++◌, drop, Vec, Global, sym, ◌∙◌, ap}
use Rattle.promotable_slots.specs.Slots.{promotable}
use Rattle.promotable_slots.specs.declared.slots.Slot.{Slot}
use Rattle.promotable_slots.proofs.Kept.{slot_kept, slot_left}
use Rattle.promotable_slots.proofs.slots.allowed.Goals.{then-allows+in_ok-push, else-allows}
use Rattle.promotable_slots.proofs.slots.allowed.Goals as goal

pub loop-slot-preserved : goal.loop-slot-preserved
loop-slot-preserved c = λ us h.
    elim c.if-allows.branch [
      | then-allows+in_ok-push w ↦
          slot_kept us c.args.slots.now c.loop-slot.slot-index _ c.loop-slot.kept.items c.if-allows.kept.items c.loop-slot-test.true (sym (h _ _) ∙ sym c.allows.ensures ∙ w.if-allows.true)
          (ap (λ (v : Vec Slot Global). v.items) w.kept-is ∙ w.in_ok-push.ensures.items)
          ∙ c.loop-slot.invariant us h
      | else-allows w ↦
          ap (λ (v : Vec Slot Global). v.items ++ promotable us (drop (c.loop-slot.slot-index + 1) c.args.slots.now)) w.kept-is
          ∙ slot_left us c.args.slots.now c.loop-slot.slot-index _ c.loop-slot.kept.items c.loop-slot-test.true (sym (h _ _) ∙ sym c.allows.ensures ∙ w.if-allows.false)
          ∙ c.loop-slot.invariant us h
    ]
