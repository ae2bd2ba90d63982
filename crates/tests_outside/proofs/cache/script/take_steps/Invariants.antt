use Rattle.cache_slot.specs.Places.{IsAt}
use Rattle.tests_outside.proofs.cache.script.take_steps.Given as goal

abbrev pub invariant-loop-step : goal.invariant-loop-step
invariant-loop-step g l = IsAt l.cache.lock.table.shared.table_id l.pass.place.seat
