-- Meet and join, number by number.
use Rattle.std.specs.Prelude.{◌≡◌, ℕ, Bool, ◌&&◌, ◌||◌, List, length}
use Rattle.lto_sets.specs.Sets.{contains, meet_of, join_of}

abbrev pub MeetIsIntersection : Type 0
MeetIsIntersection = (s t : List Bool) → length s ≡ length t → (k : ℕ) → contains (meet_of s t) k ≡ contains s k && contains t k

abbrev pub JoinIsUnion : Type 0
JoinIsUnion = (s t : List Bool) → length s ≡ length t → (k : ℕ) → contains (join_of s t) k ≡ contains s k || contains t k
