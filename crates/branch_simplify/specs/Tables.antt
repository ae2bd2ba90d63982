-- What tables by number hold.
use Rattle.std.specs.Prelude.{ℕ, List, [], Option, Some, None, nat_eq}
use Rattle.std.specs.HashMap as hash
use Rattle.std.specs.declared.vec.Vec.{Vec}
use Rattle.branch_simplify.specs.declared.counts.Counts.{Counts}
use Rattle.branch_simplify.specs.declared.lost.LostEdges.{LostEdges}

abbrev pub or_zero : Option ℕ → ℕ
or_zero (Some k) = k
or_zero None = 0

-- how often a number was counted
abbrev pub count_of : Counts → ℕ → ℕ
count_of c n = or_zero (hash.get nat_eq c.counts n)

abbrev pub or_none : {Z : Type 0} → Option (Vec ℕ Z) → List ℕ
or_none (Some v) = v.items
or_none None = []

-- the blocks that lose an edge to the block m
abbrev pub lost_at : LostEdges → ℕ → List ℕ
lost_at l m = or_none (hash.get nat_eq l.by_target m)
