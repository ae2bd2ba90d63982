use Rattle.std.proofs.Common.{All}
use Rattle.cache_slot.specs.Places.{IsAt}
use Rattle.tests_outside.proofs.cache.threads.callers_of.Given as goal

abbrev pub invariant-loop : goal.invariant-loop
invariant-loop g l = record {
  first : IsAt l.cache.lock.table.shared.table_id l.first.place.seat;
  callers : All (λ c. IsAt l.cache.lock.table.shared.table_id c.pass.place.seat) l.callers.items;
}
