use Rattle.std.proofs.Common.{◌≡◌, ◌++◌, drop}
use Rattle.slot_promote.specs.Tables.{current, place_in}
use Rattle.slot_promote.specs.Values.{without_slots}
use Rattle.slot_promote.proofs.values.without_slots.Given as goal

abbrev pub invariant-loop-line : goal.invariant-loop-line
invariant-loop-line l =
    l.rows ++ without_slots (place_in l.slots) (current (place_in l.slots) l.values) (drop l.line-index l.lines) ≡ without_slots (place_in l.slots) (current (place_in l.slots) l.fn.start) l.lines
