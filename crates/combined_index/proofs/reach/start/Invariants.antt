use Rattle.std.proofs.Common.{take}
use Rattle.combined_index.specs.LiveMarks.{IsStarted}
use Rattle.combined_index.proofs.reach.start.Given as goal

abbrev pub invariant-loop-root : goal.invariant-loop-root
invariant-loop-root l = IsStarted l.index (take l.root-index l.roots) l.walk.reached l.walk.waiting.items
