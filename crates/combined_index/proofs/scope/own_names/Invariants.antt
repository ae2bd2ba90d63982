use Rattle.std.proofs.Common.{◌≡◌, ◌||◌, ℕ, List, drop}
use Rattle.combined_index.specs.Entries.{is_own}
use Rattle.combined_index.specs.Numbered.{is_kept}
use Rattle.combined_index.proofs.scope.own_names.Given as goal

abbrev pub invariant-loop-summary : goal.invariant-loop-summary
invariant-loop-summary l = (name : List ℕ) → (is_kept l.own.keys name || is_own (drop l.summary-index l.summaries) name) ≡ is_own l.summaries name
