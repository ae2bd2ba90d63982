-- Why an event is refused.
use Rattle.std.specs.Prelude.{◌≡◌, ℕ, ◌<◌, Option, Some, None, length, slice_get}
use Rattle.link_core.specs.declared.event.Phase.{Phase}
use Rattle.link_core.specs.declared.event.Act.{Act}
use Rattle.link_core.specs.declared.event.Event.{Event}
use Rattle.link_core.specs.declared.event.StepError.{StepError}
use Rattle.link_core.specs.declared.event.StepError.TheVariants.{NotEnabled, NoMemory}
use Rattle.link_core.specs.Machine.{LinkState, CoreState, acted, stepped}

-- the phase of the event's worker
abbrev pub phase_in : Event → Option LinkState → Option Phase
phase_in e None = None
phase_in e (Some l) = slice_get l.phases e.worker

abbrev pub phase_at : CoreState → Event → Option Phase
phase_at w e = phase_in e (slice_get w.links e.link)

-- the event's link and worker exist
pub record Exists (w : CoreState) (e : Event) : Type 0 where
  pub link : e.link < length w.links
  pub worker : (l : LinkState) → slice_get w.links e.link ≡ Some l → e.worker < length l.phases

-- an event that is not enabled is answered by the phase of its worker
abbrev pub IsRefused : CoreState → Event → StepError → Type 0
IsRefused w e (NotEnabled phase) = (stepped w e ≡ None) × (phase_at w e ≡ Some phase)
IsRefused w e NoMemory = Unit {0}

-- the act is enabled in no core from this phase
abbrev pub IsDisabled : Phase → Act → Type 0
IsDisabled p act = (w : CoreState) (j : ℕ) (l : LinkState) (i : ℕ) → acted w j l i p act ≡ None

abbrev pub CannotAct : Option Phase → Act → StepError → Type 0
CannotAct at act (NotEnabled phase) = (at ≡ Some phase) × IsDisabled phase act
CannotAct at act NoMemory = Unit {0}

abbrev pub Carries : Phase → StepError → Type 0
Carries at (NotEnabled phase) = phase ≡ at
Carries at NoMemory = Unit {0}
