use Rattle.std.proofs.Common.{◌≡◌, ◌++◌, drop, map, nat_eq}
use Rattle.std.specs.HashSet.{contains}
use Rattle.block_trim.specs.Trimmed.{phi_in}
use Rattle.block_trim.proofs.trimming.phis_in.Given as goal

abbrev pub invariant-loop-phi : goal.invariant-loop-phi
invariant-loop-phi l = l.rows ++ map (phi_in (contains nat_eq l.reached)) (drop l.phi-index l.phis) ≡ map (phi_in (contains nat_eq l.reached)) l.phis
