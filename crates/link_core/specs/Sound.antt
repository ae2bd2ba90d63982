-- What each link keeps, whatever is compiled: its numbers stay in range.
use Rattle.std.specs.Prelude.{◌≡◌, ℕ, ◌+◌, ◌<◌, ◌≤◌, length, slice_get, sum_by, Option, Some, None}
use Rattle.link_core.specs.declared.event.Phase.{Phase}
use Rattle.link_core.specs.declared.event.Phase.TheVariants.{Idle, Claimed, Missed, Made, Ended}
use Rattle.link_core.specs.Machine.{LinkState}

abbrev pub number_of : Phase → Option ℕ
number_of Idle = None
number_of (Claimed k) = Some k
number_of (Missed k) = Some k
number_of (Made k text) = Some k
number_of Ended = None

-- 1 where the worker met the end
abbrev pub has_ended : Phase → ℕ
has_ended Ended = 1
has_ended _ = 0

pub record IsSound (l : LinkState) : Type 0 where
  -- each claim past the end ends a worker
  pub room : l.next ≤ length l.keys + sum_by has_ended l.phases
  pub numbers : (i k : ℕ) (p : Phase) → slice_get l.phases i ≡ Some p → number_of p ≡ Some k → k < length l.keys
  pub sized : length l.results ≡ length l.keys

-- the worker i has the number k
abbrev pub HasNumber : LinkState → ℕ → ℕ → Type 0
HasNumber l i k = (p : Phase) × (slice_get l.phases i ≡ Some p) × (number_of p ≡ Some k)
