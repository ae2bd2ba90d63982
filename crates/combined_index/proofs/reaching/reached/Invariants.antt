use Rattle.std.proofs.Common.{◌≡◌, ◌+◌, length}
use Rattle.std.specs.List.{Contains}
use Rattle.combined_index.specs.Rows.{row}
use Rattle.combined_index.specs.Walking.{IsWalk, outside}
use Rattle.combined_index.proofs.reaching.reached.Given as goal

abbrev pub invariant-loop-number : goal.invariant-loop-number
invariant-loop-number l = (length l.walk.reached ≡ length l.rows) × IsWalk (Contains l.starts) (row l.rows) l.walk.reached l.walk.waiting.items

abbrev pub decreases-loop-number : goal.decreases-loop-number
decreases-loop-number l = outside l.walk.reached + length l.walk.waiting.items
