use Rattle.std.proofs.Common.{◌≡◌, ℕ, nat_eq, drop}
use Rattle.std.specs.HashMap as hash
use Rattle.slot_promote.specs.Values.{placed}
use Rattle.slot_promote.proofs.slots.places.Given as goal

abbrev pub invariant-loop-rank : goal.invariant-loop-rank
invariant-loop-rank l = (x : ℕ) → hash.get nat_eq l.places x ≡ placed l.rank (drop l.rank l.list) x
