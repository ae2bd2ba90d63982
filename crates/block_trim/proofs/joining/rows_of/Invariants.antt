use Rattle.std.proofs.Common.{◌≡◌, ◌++◌, length}
use Rattle.block_trim.proofs.joining.rows_of.Given as goal

abbrev pub invariant-loop-line : goal.invariant-loop-line
invariant-loop-line l = l.rows ++ l.lines ≡ l.fn.lines

abbrev pub decreases-loop-line : goal.decreases-loop-line
decreases-loop-line l = length l.lines
