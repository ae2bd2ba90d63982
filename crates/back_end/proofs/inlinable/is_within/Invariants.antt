use Rattle.std.proofs.Common.{◌≡◌, ◌+◌, drop}
use Rattle.inline_site.specs.Sites.{counted_in}
use Rattle.back_end.proofs.inlinable.is_within.Given as goal

abbrev pub invariant-loop-block : goal.invariant-loop-block
invariant-loop-block l = counted_in l.blocks + l.left ≡ l.most + counted_in (drop l.block-index l.blocks)
