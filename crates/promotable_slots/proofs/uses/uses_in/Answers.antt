use Rattle.promotable_slots.proofs.Finding.{uses_found}
use Rattle.promotable_slots.proofs.uses.uses_in.Goals as goal

pub returns : goal.returns
returns c = uses_found c.args.blocks.now _ _ c.new-uses.ensures.items c.in_ok-push_uses.ensures
