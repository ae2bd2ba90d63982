use Rattle.std.proofs.Common.{◌≡◌, ◌++◌, drop}
use Rattle.combined_index.specs.Noted.{Noted, text_of}
use Rattle.combined_index.proofs.Twice.{Names}
use Rattle.combined_index.proofs.taken.least_taken.Given as goal

abbrev pub invariant-loop-name : goal.invariant-loop-name
invariant-loop-name l = (done : Names) × (done ++ drop l.name-index l.names ≡ l.names) × Noted done l.seen.keys (text_of l.least)
