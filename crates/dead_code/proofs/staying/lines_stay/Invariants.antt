use Rattle.std.proofs.Common.{◌≡◌, drop, nat_eq}
use Rattle.std.specs.HashSet.{contains}
use Rattle.dead_code.specs.Staying.{lines_stay}
use Rattle.dead_code.proofs.staying.lines_stay.Given as goal

abbrev pub invariant-loop-line : goal.invariant-loop-line
invariant-loop-line l = lines_stay (contains nat_eq l.kept) (drop l.line-index l.lines) ≡ lines_stay (contains nat_eq l.kept) l.lines
