use Rattle.std.proofs.Common.{◌≡◌, ◌++◌, drop}
use Rattle.promotable_slots.specs.Slots.{slots}
use Rattle.promotable_slots.proofs.slots.slots_in.Given as goal

abbrev pub invariant-loop-block : goal.invariant-loop-block
invariant-loop-block l = l.found.items ++ slots (drop l.block-index l.blocks) ≡ slots l.blocks
