use Rattle.std.proofs.Common.{option_map}
use Rattle.combined_index.specs.Best.{IsBest}
use Rattle.combined_index.specs.LiveMarks.{IsLackingAt}
use Rattle.combined_index.proofs.least.least_undefined.Given as goal

abbrev pub invariant-loop-place : goal.invariant-loop-place
invariant-loop-place l = IsBest (IsLackingAt l.index l.live) l.place (option_map (λ f. (f.name.now, f.place)) l.best)
