use Rattle.std.proofs.Common.{◌≡◌, ◌+◌, ◌++◌, drop}
use Rattle.slot_promote.specs.Promoted.{phis_from}
use Rattle.slot_promote.specs.Tables.{ends_in, place_in}
use Rattle.slot_promote.proofs.phis.new_phis.Given as goal

abbrev pub invariant-loop-rank : goal.invariant-loop-rank
invariant-loop-rank l =
    l.phis ++ phis_from (ends_in (place_in l.slots) l.ends) l.sources (l.first + l.rank) (drop l.rank l.slots.list.items)
    ≡ phis_from (ends_in (place_in l.slots) l.ends) l.sources l.first l.slots.list.items
