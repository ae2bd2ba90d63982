use Rattle.std.proofs.Common.{◌≡◌, ◌++◌, drop}
use Rattle.ir_summary.specs.Once.{texts}
use Rattle.ir_summary.specs.Walked.{lines_callees}
use Rattle.ir_summary.proofs.callees.push_lines.Given as goal

abbrev pub invariant-loop-line : goal.invariant-loop-line
invariant-loop-line l = texts l.names.items ++ lines_callees (drop l.line-index l.lines) ≡ texts l.fn.names.items ++ lines_callees l.lines
