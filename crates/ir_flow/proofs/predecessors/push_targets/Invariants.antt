use Rattle.std.proofs.Common.{◌≡◌, ◌++◌, map, take}
use Rattle.ir_flow.proofs.predecessors.push_targets.Given as goal

abbrev pub invariant-loop-case : goal.invariant-loop-case
invariant-loop-case l = l.numbers.items ≡ l.initial.numbers.items ++ map (λ c. c.target) (take l.case-index l.case-items)
