use Rattle.std.proofs.Common.{◌≡◌, ◌++◌, drop, nat_eq}
use Rattle.std.specs.HashSet.{contains}
use Rattle.ir_meaning.specs.Needed.{needed_lines}
use Rattle.dead_code.proofs.sweep.lines.Given as goal

abbrev pub invariant-loop-line : goal.invariant-loop-line
invariant-loop-line l = l.rows ++ needed_lines (contains nat_eq l.kept) (drop l.line-index l.lines) ≡ needed_lines (contains nat_eq l.kept) l.lines
