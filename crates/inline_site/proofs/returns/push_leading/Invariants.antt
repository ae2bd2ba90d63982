use Rattle.std.proofs.Common.{◌≡◌, ◌++◌, drop, map}
use Rattle.inline_site.specs.Inlined.{leading_to}
use Rattle.inline_site.proofs.returns.push_leading.Given as goal

abbrev pub invariant-loop-block : goal.invariant-loop-block
invariant-loop-block l = l.blocks.items ++ map (leading_to l.behind) (drop l.block-index l.copy) ≡ l.fn.blocks.items ++ map (leading_to l.behind) l.copy
