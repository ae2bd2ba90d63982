use Rattle.std.proofs.Common.{◌≡◌, ◌++◌, map, drop}
use Rattle.branch_simplify.specs.Simplified.{phi_left}
use Rattle.branch_simplify.specs.Tables.{count_of}
use Rattle.branch_simplify.proofs.entries.phis_left.Given as goal

abbrev pub invariant-loop-phi : goal.invariant-loop-phi
invariant-loop-phi l = l.rows ++ map (phi_left (count_of l.lost)) (drop l.phi-index l.phis) ≡ map (phi_left (count_of l.lost)) l.phis
