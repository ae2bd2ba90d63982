use Rattle.std.proofs.Common.{◌≡◌, length}
use Rattle.emit.specs.Strips.{chosen}
use Rattle.emit.proofs.dropping.chosen.Given as goal

abbrev pub invariant-loop-piece : goal.invariant-loop-piece
invariant-loop-piece l = record {
  place : l.place ≡ length l.yielded;
  kept : l.kept ≡ chosen l.yielded l.marks;
}
