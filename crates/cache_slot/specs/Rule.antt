-- The rule of the lock, which holds between any two steps, and what a step on a word tells.
-- Word 0 is the next ticket, word 1 the ticket that is served, and word 2 how many records the history has. Slot 0 holds the value.
use Rattle.std.specs.Prelude.{◌≡◌, ◌≢◌, ℕ, ◌+◌, ◌<◌, ◌≤◌, ◌^◌, true, List, [], ◌∷◌, length, sum_by, slice_index, Option, Some, None}
use mathlib.Core.Option.{some}
use mathlib.Core.Option as maybe
use mathlib.Core.List.{IsPrefix}
use lib.ListN.{get_elem?}
use Rattle.atomic_table.specs.Table.{State, Me, Step, rest}
use Rattle.cache_slot.specs.declared.sight.Sight.{Sight}
use Rattle.cache_slot.specs.declared.sight.Stage.TheVariants.{Out}
use Rattle.cache_slot.specs.Views.{ticket_of, is_outside, Knows, longer, tickets_held, turns_left, staged, drawn, entered, counted, merged}

module _ {T R : Type 0} (log : T → List R) where
  -- what the rule says of each place, where the ticket `served` is served
  pub record PlaceRule (served : ℕ) (history : List R) (v : Sight R) : Type 0 where
    -- what it has seen begins the history
    pub seen : IsPrefix v.seen history
    pub also : IsPrefix v.also history
    pub stage : Knows served history v.seen v.stage

  -- the value is at home, and its records are the history
  abbrev pub Home : List (maybe.Option (Option T)) → List R → Type 0
  Home homes history = (x : T) × (get_elem? homes 0 ≡ some (some (Some x))) × (log x ≡ history)

  -- the rule, which holds between any two steps
  pub record TurnRule (s : State (Option T) (Sight R)) : Type 0 where
    pub history : List R
    pub wide : length s.words ≡ 3
    -- the count is that of the history
    pub count : slice_index s.words 2 ≡ length history
    -- no ticket is served before it was drawn, and the turns that are left suffice for no more than 2^63 tickets
    pub order : slice_index s.words 1 ≤ slice_index s.words 0
    pub turns : slice_index s.words 0 + sum_by turns_left s.views ≤ 2 ^ 63
    -- the tickets that are out are those from the one that is served to the next one, each with one place
    pub out : (x : ℕ) → slice_index s.words 1 ≤ x → x < slice_index s.words 0 → sum_by (tickets_held x) s.views ≡ 1
    pub served : (x : ℕ) → x < slice_index s.words 1 → sum_by (tickets_held x) s.views ≡ 0
    pub unused : (x : ℕ) → slice_index s.words 0 ≤ x → sum_by (tickets_held x) s.views ≡ 0
    pub each_place : (j : ℕ) (v : Sight R) → get_elem? s.views j ≡ some v → PlaceRule (slice_index s.words 1) history v
    -- where no place has the value, it is at home
    pub home : ((j : ℕ) (v : Sight R) → get_elem? s.views j ≡ some v → is_outside v.stage ≡ true) → Home s.homes history

  abbrev SeatView : Type 0
  SeatView = Me (Option T) (Sight R)

  -- the records of the value that the place holds
  abbrev pub held_log : List (ℕ × Option T) → List R
  held_log [] = []
  held_log (h ∷ hs) = option_log h.1
    where
      option_log : Option T → List R
      option_log None = []
      option_log (Some x) = log x

  -- what each kind of step tells. A draw: the ticket found is the place's
  abbrev pub DrawStep : Step (Option T) → SeatView → ℕ → SeatView → Type 0
  DrawStep at me found after = (after.0 ≡ drawn me.0 found) × (after.1 ≡ me.1)

  -- the place whose ticket is served takes the value
  abbrev pub AwaitStep : Step (Option T) → SeatView → ℕ → SeatView → Type 0
  AwaitStep at me found after = (found ≡ ticket_of me.0.stage → (x : T) × (after.0 ≡ entered me.0 found (log x)) × (after.1 ≡ (0, Some x) ∷ me.1) × IsPrefix me.0.seen (log x))
      × (found ≢ ticket_of me.0.stage → after ≡ me)

  -- the held value's records become what the place has seen
  abbrev pub CountStep : Step (Option T) → SeatView → ℕ → SeatView → Type 0
  CountStep at me found after = (after.0 ≡ counted me.0 (held_log me.1)) × (after.1 ≡ me.1)

  -- the value goes home
  abbrev pub ServeStep : Step (Option T) → SeatView → ℕ → SeatView → Type 0
  ServeStep at me found after = (after.0 ≡ staged me.0 Out) × (after.1 ≡ rest me.1)

  -- of the two lists the shorter begins the longer
  abbrev pub MeetStep : Step (Option T) → SeatView → ℕ → SeatView → Type 0
  MeetStep at me found after = (after.0 ≡ merged me.0) × (after.1 ≡ me.1) × IsPrefix me.0.seen (longer me.0.seen me.0.also) × IsPrefix me.0.also (longer me.0.seen me.0.also) × (after.0.turns ≤ 9223372036854775808)
