use Rattle.std.proofs.Common.{◌≡◌, drop, nat_eq}
use Rattle.std.specs.HashSet.{contains}
use Rattle.ir_facts.specs.Clear.{lines_clear}
use Rattle.ir_facts.specs.Scopes.{bars}
use Rattle.ir_facts.proofs.clear.lines_clear.Given as goal

abbrev pub invariant-loop-line : goal.invariant-loop-line
invariant-loop-line l =
    lines_clear (bars l.bar.scopes.now l.bar.place) (contains nat_eq l.own) (contains nat_eq l.front) (drop l.line-index l.lines)
    ≡ lines_clear (bars l.bar.scopes.now l.bar.place) (contains nat_eq l.own) (contains nat_eq l.initial.front) l.lines
