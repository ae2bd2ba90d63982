-- What a clause says of a place.
use Rattle.std.specs.Prelude.{◌≡◌, ℕ, ◌+◌, List, [], ◌∷◌, Option, None}
use mathlib.Core.List.{IsPrefix}
use Rattle.atomic_table.specs.Seated.{TableId}
use Rattle.atomic_table.specs.Table.{Me}
use Rattle.atomic_table.specs.declared.shared.Seat.{Seat}
use Rattle.cache_slot.specs.declared.sight.Sight.{Sight}
use Rattle.cache_slot.specs.declared.sight.Stage.TheVariants.{Out, Inside}
use Rattle.cache_slot.specs.Views.{drawn, entered, longer}

module _ {T R : Type 0} where
  -- the place is one of this lock
  abbrev pub IsAt : TableId → Seat (Option T) (Sight R) → Type 0
  IsAt lock s = s.table_id ≡ lock

  -- and it is not in a turn
  abbrev pub IsOut : TableId → Seat (Option T) (Sight R) → Type 0
  IsOut lock s = (s.table_id ≡ lock) × (s.me.1 ≡ []) × (s.me.0.stage ≡ Out)

  abbrev pub IsSamePlace : Seat (Option T) (Sight R) → Seat (Option T) (Sight R) → Type 0
  IsSamePlace s t = (t.table_id ≡ s.table_id) × (t.id ≡ s.id)

  -- the history as the place's last turn left it, and as it found it
  abbrev pub seen_by : Seat (Option T) (Sight R) → List R
  seen_by s = s.me.0.seen

  abbrev pub before_turn : Seat (Option T) (Sight R) → List R
  before_turn s = s.me.0.before

  -- the place took one turn, and what it had seen begins the history that this turn found
  abbrev pub TookOneTurn : Seat (Option T) (Sight R) → Seat (Option T) (Sight R) → Type 0
  TookOneTurn s t = (t.me.0.turns + 1 ≡ s.me.0.turns) × IsPrefix (seen_by s) (before_turn t)

  -- with the value in hand, whose history was l
  abbrev pub taken : Sight R → ℕ → List R → Me (Option T) (Sight R)
  taken v t l = (entered (drawn v t) t l, (0, None) ∷ [])

  -- the place has the turn t, and the history of the value that it took was l
  abbrev pub IsInside : Seat (Option T) (Sight R) → ℕ → List R → Type 0
  IsInside s t l = (s.me.0.stage ≡ Inside t l) × (s.me.1 ≡ (0, None) ∷ [])

  -- after the turn, which left the history l
  abbrev pub given : Sight R → List R → Me (Option T) (Sight R)
  given v l = (record v { seen = l; stage = Out }, [])

module _ {R : Type 0} where
  -- v with the turns of w, and the longer of what the two have seen
  abbrev pub joined : Sight R → Sight R → Sight R
  joined v w = record v { turns = v.turns + w.turns; seen = longer v.seen w.seen; also = [] }
