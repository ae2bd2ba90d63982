use Rattle.std.proofs.Common.{◌≡◌, ◌++◌, drop}
use Rattle.ir_edit.specs.Numbered.{line_numbers}
use Rattle.fact_sources.proofs.unreached.push_lines.Given as goal

abbrev pub invariant-loop-line : goal.invariant-loop-line
invariant-loop-line l = l.locals.items ++ line_numbers (drop l.line-index l.lines) ≡ l.initial.locals.items ++ line_numbers l.lines
