-- How each kind of step changes what a place has seen, and where it stands.
use Rattle.std.specs.Prelude.{◌≡◌, ℕ, ◌+◌, ◌-◌, ◌/◌, ◌==◌, Bool, true, false, if◌then◌else◌, nat_lt, List, [], length}
use Rattle.cache_slot.specs.declared.sight.Sight.{Sight}
use Rattle.cache_slot.specs.declared.sight.Stage.{Stage}
use Rattle.cache_slot.specs.declared.sight.Stage.TheVariants.{Out, Waiting, Inside, Counted}

-- the turns that a new place gets of n: 2^40, or half where fewer than 2^41 are left
abbrev pub share : ℕ → ℕ
share n = if nat_lt n 2199023255552 then n / 2 else 1099511627776

module _ {R : Type 0} where
  -- 1 where the place has the ticket x
  abbrev pub ticket_count : ℕ → Stage R → ℕ
  ticket_count x Out = 0
  ticket_count x (Waiting t) = if t == x then 1 else 0
  ticket_count x (Inside t l) = if t == x then 1 else 0
  ticket_count x (Counted t) = if t == x then 1 else 0

  -- the value is not out with the place
  abbrev pub is_outside : Stage R → Bool
  is_outside Out = true
  is_outside (Waiting t) = true
  is_outside (Inside t l) = false
  is_outside (Counted t) = false

  -- its ticket, if it has one
  abbrev pub ticket_of : Stage R → ℕ
  ticket_of Out = 0
  ticket_of (Waiting t) = t
  ticket_of (Inside t l) = t
  ticket_of (Counted t) = t

  -- of two lists the longer, of equals the first
  abbrev pub longer : List R → List R → List R
  longer xs ys = if nat_lt (length xs) (length ys) then ys else xs

  -- what a place knows at its stage, where the ticket `served` is served and `history` is the history
  abbrev pub Knows : ℕ → List R → List R → Stage R → Type 0
  Knows served history seen Out = Unit {0}
  Knows served history seen (Waiting t) = Unit {0}
  Knows served history seen (Inside t l) = (t ≡ served) × (l ≡ history)
  Knows served history seen (Counted t) = (t ≡ served) × (seen ≡ history)

  -- how often the place has the ticket x, and how many turns it may still take
  abbrev pub tickets_held : ℕ → Sight R → ℕ
  tickets_held x v = ticket_count x v.stage

  abbrev pub turns_left : Sight R → ℕ
  turns_left v = v.turns

  -- the first place, and what is left of one that another has taken in
  abbrev pub opening_sight : Sight R
  opening_sight = record { turns = 9223372036854775808; before = []; seen = []; also = []; stage = Out }

  abbrev pub no_sight : Sight R
  no_sight = record { turns = 0; before = []; seen = []; also = []; stage = Out }

  -- how the steps change a place: it goes to a stage, draws the ticket t, takes the value at the turn t, whose history is
  -- l, puts back a value whose history is l
  abbrev pub staged : Sight R → Stage R → Sight R
  staged v stage = record v { stage = stage }

  abbrev pub drawn : Sight R → ℕ → Sight R
  drawn v t = record v { turns = v.turns - 1; stage = Waiting t }

  abbrev pub entered : Sight R → ℕ → List R → Sight R
  entered v t l = record v { before = l; stage = Inside t l }

  abbrev pub counted : Sight R → List R → Sight R
  counted v l = record v { seen = l; stage = Counted (ticket_of v.stage) }

  -- it is cut in two: the new place has seen as much, and gets a share of the turns
  abbrev pub left_sight : Sight R → Sight R
  left_sight v = record v { turns = v.turns - share v.turns }

  abbrev pub right_sight : Sight R → Sight R
  right_sight v = record v { turns = share v.turns; also = []; stage = Out }

  -- it takes another in, and then sees which of the two lists is the longer
  abbrev pub both_sights : Sight R → Sight R → Sight R
  both_sights v w = record v { turns = v.turns + w.turns; also = w.seen }

  abbrev pub merged : Sight R → Sight R
  merged v = record v { seen = longer v.seen v.also; also = [] }
