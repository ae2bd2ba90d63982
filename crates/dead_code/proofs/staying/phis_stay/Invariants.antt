use Rattle.std.proofs.Common.{◌≡◌, drop, nat_eq}
use Rattle.std.specs.HashSet.{contains}
use Rattle.dead_code.specs.Staying.{phis_stay}
use Rattle.dead_code.proofs.staying.phis_stay.Given as goal

abbrev pub invariant-loop-phi : goal.invariant-loop-phi
invariant-loop-phi l = phis_stay (contains nat_eq l.kept) (drop l.phi-index l.phis) ≡ phis_stay (contains nat_eq l.kept) l.phis
