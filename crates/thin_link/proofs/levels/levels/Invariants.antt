use Rattle.std.proofs.Common.{◌≡◌, ◌+◌, ℕ, length}
use Rattle.thin_link.specs.Chains.{threshold}
use Rattle.thin_link.specs.Walking.{IsLevel, unseen}
use Rattle.thin_link.proofs.levels.levels.Given as goal

abbrev pub invariant-loop-alloc : goal.invariant-loop-alloc
invariant-loop-alloc l = record {
  len : length l.seen ≡ length l.index.symbols;
  k : ℕ;
  most : l.most ≡ threshold l.limit k;
  level : IsLevel l.index l.live l.limit l.definitions k l.seen l.found.items l.level.items;
}

abbrev pub decreases-loop-alloc : goal.decreases-loop-alloc
decreases-loop-alloc l = unseen l.seen + length l.level.items
