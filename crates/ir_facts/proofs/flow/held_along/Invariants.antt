use Rattle.std.proofs.Common.{◌≡◌, drop}
use Rattle.ir_facts.specs.Points.{held_along}
use Rattle.ir_facts.proofs.flow.held_along.Given as goal

abbrev pub invariant-loop-line : goal.invariant-loop-line
invariant-loop-line l = held_along l.local l.value (drop l.line-index l.lines) l.held ≡ held_along l.local l.value l.lines l.start
