use Rattle.std.proofs.Common.{None, ◌∙◌, refl}
use Rattle.ir_tree.specs.declared.instr.Incoming.{Incoming}
use Rattle.promotable_slots.specs.Uses.{entry_uses, operand_uses}
use Rattle.ir_edit.proofs.Stepping.{given_more}
use Rattle.promotable_slots.proofs.uses.push_entries.Goals as goal

pub loop-entry-preserved : goal.loop-entry-preserved
loop-entry-preserved c =
    given_more (λ (e : Incoming). operand_uses None e.value) entry_uses (λ x xs. refl) c.args.entries.now c.loop-entry.entry-index c.entry-item.result c.loop-entry.uses.items c.push_operand.new.uses.items c.loop-entry-test.true c.entry-item.is c.in_ok-push_operand.ensures
    ∙ c.loop-entry.invariant
