use Rattle.std.proofs.Common.{◌≡◌, ◌++◌, drop}
use Rattle.ir_summary.specs.Once.{texts}
use Rattle.ir_summary.specs.Walked.{lines_names}
use Rattle.ir_summary.proofs.bodies.push_lines.Given as goal

abbrev pub invariant-loop-line : goal.invariant-loop-line
invariant-loop-line l = texts l.names.items ++ lines_names (drop l.line-index l.lines) ≡ texts l.fn.names.items ++ lines_names l.lines
