use Rattle.std.proofs.Common.{◌≡◌, ◌++◌, drop, if◌then◌else◌}
use Rattle.branch_simplify.specs.Decided.{without_first}
use Rattle.branch_simplify.proofs.lost.without_first.Given as goal

abbrev pub invariant-loop-other : goal.invariant-loop-other
invariant-loop-other l =
    l.others.items ++ (if l.found then drop l.other-index l.numbers else without_first l.number (drop l.other-index l.numbers)) ≡ without_first l.number l.numbers
