use Rattle.std.proofs.Common.{◌≡◌, ◌++◌, drop}
use Rattle.promotable_slots.specs.Slots.{line_slots}
use Rattle.promotable_slots.proofs.slots.push_slots.Given as goal

abbrev pub invariant-loop-line : goal.invariant-loop-line
invariant-loop-line l = l.found.items ++ line_slots (drop l.line-index l.lines) ≡ l.fn.found.items ++ line_slots l.lines
