use Rattle.std.proofs.Common.{◌≡◌, ◌≤◌, ◌-◌, length, replicate}
use Rattle.link_core.specs.declared.event.Phase.TheVariants.{Idle}
use Rattle.link_core.proofs.link.idle_phases.Given as goal

abbrev pub invariant-loop-phases : goal.invariant-loop-phases
invariant-loop-phases l = record { so_far : l.phases.items ≡ replicate (length l.phases.items) Idle; room : length l.phases.items ≤ l.workers }

abbrev pub decreases-loop-phases : goal.decreases-loop-phases
decreases-loop-phases l = l.workers - length l.phases.items
