use Rattle.std.proofs.Common.{◌≡◌, drop, nat_eq}
use Rattle.std.specs.HashSet.{contains}
use Rattle.ir_facts.specs.Clear.{any_among}
use Rattle.ir_facts.proofs.clear.any_among.Given as goal

abbrev pub invariant-loop-pair : goal.invariant-loop-pair
invariant-loop-pair l = any_among (contains nat_eq l.set) (drop l.pair-index l.found) ≡ any_among (contains nat_eq l.set) l.found
