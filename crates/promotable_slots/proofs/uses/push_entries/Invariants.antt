use Rattle.std.proofs.Common.{◌≡◌, ◌++◌, drop}
use Rattle.promotable_slots.specs.Uses.{entry_uses}
use Rattle.promotable_slots.proofs.uses.push_entries.Given as goal

abbrev pub invariant-loop-entry : goal.invariant-loop-entry
invariant-loop-entry l = l.uses.items ++ entry_uses (drop l.entry-index l.entries) ≡ l.fn.uses.items ++ entry_uses l.entries
