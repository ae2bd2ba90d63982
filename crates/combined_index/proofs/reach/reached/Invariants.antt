use Rattle.std.proofs.Common.{◌≡◌, ◌+◌, length}
use Rattle.combined_index.specs.Liveness.{IsExported, refs}
use Rattle.combined_index.specs.Walking.{IsWalk, outside}
use Rattle.combined_index.proofs.reach.reached.Given as goal

abbrev pub invariant-loop-number : goal.invariant-loop-number
invariant-loop-number l = (length l.walk.reached ≡ length l.index.symbols) × IsWalk (IsExported l.index l.roots) (refs l.index) l.walk.reached l.walk.waiting.items

abbrev pub decreases-loop-number : goal.decreases-loop-number
decreases-loop-number l = outside l.walk.reached + length l.walk.waiting.items
