use Rattle.std.proofs.Common.{◌≡◌, ◌++◌, drop}
use Rattle.ir_flow.specs.Narrowing.{marked}
use Rattle.ir_facts.specs.FactFlow.{flow_points}
use Rattle.ir_facts.proofs.points.push_points.Given as goal

abbrev pub invariant-loop-place : goal.invariant-loop-place
invariant-loop-place l =
    l.marks.items ++ flow_points l.local l.value (marked l.rows) l.place (drop l.place l.blocks)
    ≡ l.initial.marks.items ++ flow_points l.local l.value (marked l.rows) 0 l.blocks
