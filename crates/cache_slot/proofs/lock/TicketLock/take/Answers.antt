use Rattle.std.proofs.Common.{rules, arith, ◌<◌, ℕ, ◌∷◌, Some, Option, List, sym, ap, ◌∙◌}
use Rattle.cache_slot.specs.Views.{ticket_of}
use Rattle.atomic_table.specs.Table.{rest}
use Rattle.cache_slot.proofs.Steps.{draws, waits}
use Rattle.cache_slot.proofs.lock.TicketLock.take.Goals as goal

pub fetch_add-ticket-requires : goal.fetch_add-ticket-requires
fetch_add-ticket-requires g c =
    let some_left : 0 < c.args.place.now.seat.me.0.turns = omega arith in
    (search rules, search rules, draws g.T.Logged.log _ _ _ c.requires.2 some_left)

pub loop-init : goal.loop-init
loop-init g c = let e = c.fetch_add-ticket.ensures in record { table = e.0; id = e.1; me = λ i. (e.2.0 i, (e.2.1 ∙ c.requires.1) i) }

pub load-serving-requires : goal.load-serving-requires
load-serving-requires g c = (search rules, search rules, waits g.T.Logged.log _ _ _ _ (ap (λ m. m.0.stage) c.loop.invariant.me))

pub exchange-requires : goal.exchange-requires
exchange-requires g c =
    let took = c.load-serving.ensures.2.0 (c.if-serving-ticket.true ∙ sym (ap (λ m. ticket_of m.0.stage) c.loop.invariant.me)) in
    (search rules, (Some took.0, took.2 ∙ ap (λ (l : List (ℕ × Option g.row.T.Denot)). (0, Some took.0) ∷ l) (sym (ap rest took.2))))
