use Rattle.std.proofs.Common.{◌≡◌, ◌++◌, drop, nat_eq}
use Rattle.std.specs.HashSet.{contains}
use Rattle.ir_meaning.specs.Needed.{needed_phis}
use Rattle.dead_code.proofs.sweep.phis.Given as goal

abbrev pub invariant-loop-phi : goal.invariant-loop-phi
invariant-loop-phi l = l.rows ++ needed_phis (contains nat_eq l.kept) (drop l.phi-index l.phis) ≡ needed_phis (contains nat_eq l.kept) l.phis
