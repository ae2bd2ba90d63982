use Rattle.std.proofs.Common.{◌≡◌, ◌+◌, drop}
use Rattle.inline_site.specs.Sites.{counted_in}
use Rattle.back_end.proofs.walker.count_of.Given as goal

abbrev pub invariant-loop-block : goal.invariant-loop-block
invariant-loop-block l = l.count + counted_in (drop l.block-index l.blocks) ≡ counted_in l.blocks
