use Rattle.std.proofs.Common.{◌≡◌, ◌≤◌, ◌-◌, length, replicate, None}
use Rattle.link_core.proofs.link.no_results.Given as goal

abbrev pub invariant-loop-results : goal.invariant-loop-results
invariant-loop-results l = record { so_far : l.results.items ≡ replicate (length l.results.items) None; room : length l.results.items ≤ l.count }

abbrev pub decreases-loop-results : goal.decreases-loop-results
decreases-loop-results l = l.count - length l.results.items
