-- Which calls are to fail.
use Rattle.std.specs.Prelude.{ℕ, ◌==◌, Bool, List, [], ◌∷◌, Option, None, Some, if◌then◌else◌}
use Rattle.std.specs.List.{list_any}
use Rattle.outside_memory.specs.declared.failure.Failure.{Failure}
use Rattle.outside_memory.specs.declared.failure.Leaves.{Leaves}

-- what the first failure of this call leaves, or none where the call isn't to fail
abbrev pub leaves_at : List Failure → ℕ → Option Leaves
leaves_at [] call = None
leaves_at (failure ∷ failures) call = if failure.call == call then Some failure.leaves else leaves_at failures call

-- the call's number is among these
abbrev pub is_listed : List ℕ → ℕ → Bool
is_listed calls call = list_any (λ listed. listed == call) calls
