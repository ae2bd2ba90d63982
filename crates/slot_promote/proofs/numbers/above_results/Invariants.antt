use Rattle.std.proofs.Common.{◌≡◌, max, drop}
use Rattle.ir_tree.specs.Flow.{results, room}
use Rattle.slot_promote.proofs.numbers.above_results.Given as goal

abbrev pub invariant-loop-line : goal.invariant-loop-line
invariant-loop-line l = max l.next (room (results (drop l.line-index l.lines))) ≡ room (results l.lines)
