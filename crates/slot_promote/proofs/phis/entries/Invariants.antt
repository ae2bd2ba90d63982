use Rattle.std.proofs.Common.{◌≡◌, ◌++◌, drop}
use Rattle.slot_promote.specs.Promoted.{entries_of}
use Rattle.slot_promote.specs.Tables.{ends_in, place_in}
use Rattle.slot_promote.proofs.phis.entries.Given as goal

abbrev pub invariant-loop-source : goal.invariant-loop-source
invariant-loop-source l =
    l.rows ++ entries_of (ends_in (place_in l.slots) l.ends) l.local (drop l.source-index l.sources) ≡ entries_of (ends_in (place_in l.slots) l.ends) l.local l.sources
