use Rattle.std.proofs.Common.{◌≡◌, ℕ, ◌||◌, drop, nat_eq}
use Rattle.std.specs.HashSet.{contains}
use Rattle.ir_meaning.specs.Facts.{is_phi}
use Rattle.fact_sources.proofs.phis.phi_locals.Given as goal

abbrev pub invariant-loop-phi : goal.invariant-loop-phi
invariant-loop-phi l = (x : ℕ) → (contains nat_eq l.set x || is_phi x (drop l.phi-index l.phis)) ≡ is_phi x l.phis
