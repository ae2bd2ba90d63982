use Rattle.std.proofs.Common.{rules}
use Rattle.cache_slot.proofs.Steps.{splits}
use Rattle.cache_slot.proofs.lock.TicketLock.split.Goals as goal

pub split_seat-seat-requires : goal.split_seat-seat-requires
split_seat-seat-requires g c = (search rules, search rules, splits g.T.Logged.log _ _)
