use Rattle.std.proofs.Common.{option_map}
use Rattle.combined_index.specs.Best.{IsBest}
use Rattle.combined_index.specs.LiveMarks.{IsUnexportedAt}
use Rattle.combined_index.proofs.least.least_unexported.Given as goal

abbrev pub invariant-loop-place : goal.invariant-loop-place
invariant-loop-place l = IsBest (IsUnexportedAt l.index l.roots) l.place (option_map (λ f. (f.name.now, f.place)) l.best)
