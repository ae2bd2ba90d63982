use Rattle.std.proofs.Common.{rules, ap, ◌∙◌}
use Rattle.cache_slot.proofs.Steps.{joins, meets}
use Rattle.cache_slot.proofs.lock.TicketLock.join.Goals as goal

pub join_seat-requires : goal.join_seat-requires
join_seat-requires g c = (search rules, search rules, search rules, search rules, joins g.T.Logged.log _ _ _ _ c.requires.other.2)

pub load-requires : goal.load-requires
load-requires g c = (search rules, search rules, meets g.T.Logged.log _ _ _ (ap (λ m. m.0.stage) c.join_seat.ensures.2 ∙ c.requires.place.2))
