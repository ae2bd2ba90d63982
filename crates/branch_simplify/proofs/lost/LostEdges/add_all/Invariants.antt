use Rattle.std.proofs.Common.{◌≡◌, ◌++◌, ℕ, drop}
use Rattle.ir_tree.specs.Flow.{repeated}
use Rattle.branch_simplify.specs.Tables.{lost_at}
use Rattle.branch_simplify.proofs.lost.LostEdges.add_all.Given as goal

abbrev pub invariant-loop-target : goal.invariant-loop-target
invariant-loop-target l = (m : ℕ) → lost_at l.self m ++ repeated l.source m (drop l.target-index l.targets) ≡ lost_at l.fn.self m ++ repeated l.source m l.targets
