use Rattle.std.proofs.Common.{◌≡◌, []}
use Rattle.cache_slot.specs.Views.{drawn}
use Rattle.cache_slot.proofs.lock.TicketLock.take.Given as goal

abbrev pub invariant-loop : goal.invariant-loop
invariant-loop g l = record {
  table : l.place.seat.table_id ≡ l.fn.place.seat.table_id;
  id : l.place.seat.id ≡ l.fn.place.seat.id;
  me : l.place.seat.me ≡ (drawn l.fn.place.seat.me.0 l.ticket, []);
}
