use Rattle.std.proofs.Common.{◌≡◌, ◌++◌, drop, nat_eq}
use Rattle.std.specs.HashSet.{contains}
use Rattle.fact_sources.proofs.Parting.{parted}
use Rattle.fact_sources.proofs.unreached.parted.Given as goal

abbrev pub invariant-loop-pair : goal.invariant-loop-pair
invariant-loop-pair l = l.some.items ++ parted l.inside (contains nat_eq l.set) (drop l.pair-index l.found) ≡ parted l.inside (contains nat_eq l.set) l.found
