-- What tables by number hold.
use Rattle.std.specs.Prelude.{ℕ, nat_eq, List, Option, Some, None, slice_get, slice_index_or}
use Rattle.std.specs.HashMap as hash
use Rattle.ir_tree.specs.declared.operand.Operand.{Operand}
use Rattle.ir_tree.specs.declared.operand.Operand.TheVariants.{Null}
use Rattle.ir_meaning.specs.Promote.{Current}
use Rattle.slot_promote.specs.Promoted.{End}
use Rattle.slot_promote.specs.Values.{value_at_start}
use Rattle.slot_promote.specs.declared.phis.BlockEnd.{BlockEnd}
use Rattle.slot_promote.specs.declared.slots.SlotRank.{SlotRank}
use Rattle.slot_promote.specs.declared.slots.Slots.{Slots}
use Rattle.slot_promote.specs.declared.values.Values.{Values}

abbrev pub place_in : Slots → ℕ → Option SlotRank
place_in s x = hash.get nat_eq s.places x

abbrev pub written_or : Option Operand → Operand → Operand
written_or (Some o) start = o
written_or None start = start

-- the values of slots that stand at these places
abbrev pub current : (ℕ → Option SlotRank) → Values → Current
current at v x = written_or (hash.get nat_eq v.written x) (value_at_start v.first (at x))

abbrev pub end_view : (ℕ → Option SlotRank) → BlockEnd → End
end_view at e = record { number = e.number; values = current at e.values }

abbrev pub viewed : (ℕ → Option SlotRank) → Option BlockEnd → End
viewed at None = record { number = 0; values = λ x. Null }
viewed at (Some e) = end_view at e

abbrev pub ends_in : (ℕ → Option SlotRank) → List BlockEnd → ℕ → End
ends_in at es p = viewed at (slice_get es p)

-- the number at a place, and none behind the last
abbrev pub first_in : List (Option ℕ) → ℕ → Option ℕ
first_in firsts p = slice_index_or firsts p None
