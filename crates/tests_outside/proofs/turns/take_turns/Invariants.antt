use Rattle.cache_slot.specs.Places.{IsOut}
use Rattle.tests_outside.proofs.turns.take_turns.Given as goal

abbrev pub invariant-loop-i : goal.invariant-loop-i
invariant-loop-i g l = IsOut l.lock.table.shared.table_id l.place.seat
