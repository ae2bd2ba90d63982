use Rattle.std.proofs.Common.{◌≡◌, ◌++◌, drop}
use Rattle.ir_facts.specs.Points.{line_points}
use Rattle.ir_facts.proofs.points.push_line_points.Given as goal

abbrev pub invariant-loop-line : goal.invariant-loop-line
invariant-loop-line l = l.marks.items ++ line_points l.local l.value (drop l.line-index l.lines) l.held ≡ l.initial.marks.items ++ line_points l.local l.value l.lines l.start
