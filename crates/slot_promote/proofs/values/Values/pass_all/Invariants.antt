use Rattle.std.proofs.Common.{◌≡◌, ℕ, drop}
use Rattle.slot_promote.specs.Tables.{current, place_in}
use Rattle.slot_promote.specs.Values.{behind_lines}
use Rattle.slot_promote.proofs.values.Values.pass_all.Given as goal

abbrev pub invariant-loop-line : goal.invariant-loop-line
invariant-loop-line l =
    (x : ℕ) → behind_lines (place_in l.slots) (current (place_in l.slots) l.self) (drop l.line-index l.lines) x ≡ behind_lines (place_in l.slots) (current (place_in l.slots) l.fn.self) l.lines x
