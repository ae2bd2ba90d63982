use Rattle.std.proofs.Common.{◌≡◌, ◌+◌, ◌≤◌, take}
use Rattle.inline_site.specs.Sites.{counted_in}
use Rattle.inline_site.proofs.site.site_at.Given as goal

abbrev pub invariant-loop-block : goal.invariant-loop-block
invariant-loop-block l = record {
  here : l.place ≡ counted_in (take l.block l.blocks) + l.left;
  some : 1 ≤ l.left;
}
