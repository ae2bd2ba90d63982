use Rattle.std.proofs.Common.{◌≡◌, ◌++◌, ℕ, drop}
use Rattle.branch_simplify.specs.Simplified.{lost_into}
use Rattle.branch_simplify.specs.Tables.{lost_at}
use Rattle.branch_simplify.proofs.lost.LostEdges.of.Given as goal

abbrev pub invariant-loop-block : goal.invariant-loop-block
invariant-loop-block l = (m : ℕ) → lost_at l.edges m ++ lost_into m (drop l.block-index l.blocks) ≡ lost_into m l.blocks
