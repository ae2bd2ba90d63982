use Rattle.std.proofs.Common.{◌≡◌, ◌++◌, drop}
use Rattle.block_trim.proofs.joining.content_of.Given as goal

abbrev pub invariant-loop-line : goal.invariant-loop-line
invariant-loop-line l = l.lines ++ drop l.line-index l.line-items ≡ l.line-items
