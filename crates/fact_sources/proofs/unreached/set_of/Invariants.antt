use Rattle.std.proofs.Common.{◌≡◌, ℕ, ◌||◌, drop, nat_eq}
use Rattle.std.specs.HashSet.{contains}
use Rattle.fact_sources.specs.Apart.{is_listed}
use Rattle.fact_sources.proofs.unreached.set_of.Given as goal

abbrev pub invariant-loop-local : goal.invariant-loop-local
invariant-loop-local l = (x : ℕ) → (contains nat_eq l.set x || is_listed x (drop l.local-index l.locals)) ≡ is_listed x l.locals
