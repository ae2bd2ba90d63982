-- A function with its slots promoted to values.
use Rattle.std.specs.Prelude.{ℕ, zero, suc, ◌+◌, nat_eq, Bool, false, not, if◌then◌else◌, List, [], ◌∷◌, ◌++◌, length, map, slice_get, Option, Some, None}
use Rattle.ir_tree.specs.Flow.{edges, locals, room}
use Rattle.ir_tree.specs.Formed.{numbers}
use Rattle.ir_tree.specs.declared.block.Block.{Block}
use Rattle.ir_tree.specs.declared.function.Function.{Function}
use Rattle.ir_tree.specs.declared.instr.Incoming.{Incoming}
use Rattle.ir_tree.specs.declared.instr.Phi.{Phi}
use Rattle.ir_tree.specs.declared.operand.Operand.TheVariants.{Null}
use Rattle.ir_meaning.specs.Promote.{Current}
use Rattle.promotable_slots.specs.Slots.{promoted_slots}
use Rattle.slot_promote.specs.Values.{at_start, behind_lines, placed, without_slots}
use Rattle.slot_promote.specs.declared.slots.SlotRank.{SlotRank}
use Rattle.promotable_slots.specs.declared.slots.Slot.{Slot}

-- ---- the numbers of the new phis

-- a block other than the entry takes the slots' values by phis, where an edge leads to it
abbrev pub takes : ℕ → List ℕ → Bool
takes b [] = false
takes b (p ∷ ps) = not (nat_eq b 0)

-- the first number that is free at a block, where n is free at the entry and k phis are numbered in each block that takes values
abbrev pub free : (ℕ → List ℕ) → ℕ → ℕ → ℕ → ℕ
free edges k n zero = n
free edges k n (suc b) = if takes b (edges b) then free edges k n b + k else free edges k n b

-- the number of a block's first new phi
abbrev pub first_phi : (ℕ → List ℕ) → ℕ → ℕ → ℕ → Option ℕ
first_phi edges k n b = if takes b (edges b) then Some (free edges k n b) else None

-- ---- how blocks end

-- the number of a block, and the slots' values at its end
pub record End : Type 0 where
  pub number : ℕ
  pub values : Current

-- how a block ends whose first new phi has this number, if it has new phis
abbrev pub end_with : (ℕ → Option SlotRank) → Option ℕ → Option Block → End
end_with at first None = record { number = 0; values = λ x. Null }
end_with at first (Some b) = record { number = b.number; values = behind_lines at (at_start at first) b.lines }

abbrev pub ends_with : (ℕ → Option SlotRank) → (ℕ → Option ℕ) → List Block → ℕ → End
ends_with at first bs p = end_with at (first p) (slice_get bs p)

-- ---- phis

abbrev pub entry_of : ℕ → End → Incoming
entry_of x e = record { from = e.number; value = e.values x }

-- an entry for the slot x from the end of each predecessor, which go by their places
abbrev pub entries_of : (ℕ → End) → ℕ → List ℕ → List Incoming
entries_of ends x from = map (λ p. entry_of x (ends p)) from

-- a phi for each slot, the first under the number n
abbrev pub phis_from : (ℕ → End) → List ℕ → ℕ → List Slot → List Phi
phis_from ends from n [] = []
phis_from ends from n (s ∷ ss) = record { local = n; reg = s.reg; incoming = entries_of ends s.local from } ∷ phis_from ends from (suc n) ss

abbrev pub new_phis : (ℕ → End) → List ℕ → Option ℕ → List Slot → List Phi
new_phis ends from None ss = []
new_phis ends from (Some n) ss = phis_from ends from n ss

-- ---- functions

-- a block with new phis before its own, and without slots among its lines
abbrev pub block_with : (ℕ → Option SlotRank) → List Slot → (ℕ → End) → List ℕ → Option ℕ → Block → Block
block_with at ss ends from first b =
    record b { phis = new_phis ends from first ss ++ b.phis; lines = without_slots at (at_start at first) b.lines }

-- these blocks, the first of which has the place p
abbrev pub blocks_with : (ℕ → Option SlotRank) → List Slot → (ℕ → End) → (ℕ → List ℕ) → (ℕ → Option ℕ) → ℕ → List Block → List Block
blocks_with at ss ends from first p [] = []
blocks_with at ss ends from first p (b ∷ bs) = block_with at ss ends (from p) (first p) b ∷ blocks_with at ss ends from first (suc p) bs

-- the number of the first new phi of the block at a place, where these slots are promoted and n is the first free number
abbrev pub first_at : Function → List Slot → ℕ → ℕ → Option ℕ
first_at f ss n p = first_phi (edges f) (length ss) n p

-- how the block at a place ends
abbrev pub end_at : Function → List Slot → ℕ → ℕ → End
end_at f ss n p = ends_with (placed 0 ss) (first_at f ss n) f.blocks p

-- the function with these slots as values
abbrev pub promoted_with : Function → List Slot → ℕ → Function
promoted_with f ss n = record f { blocks = blocks_with (placed 0 ss) ss (end_at f ss n) (edges f) (first_at f ss n) 0 f.blocks }

-- the least number above those of all locals and blocks
abbrev pub next_number : Function → ℕ
next_number f = room (locals f ++ numbers f)

-- the function with its promotable slots as values, all at once
abbrev pub promoted_function : Function → Function
promoted_function f = promoted_with f (promoted_slots f) (next_number f)
