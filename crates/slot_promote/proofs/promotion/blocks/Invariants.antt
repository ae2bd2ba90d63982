use Rattle.std.proofs.Common.{◌≡◌, ◌++◌, drop}
use Rattle.ir_flow.specs.Graph.{row}
use Rattle.slot_promote.specs.Promoted.{blocks_with}
use Rattle.slot_promote.specs.Tables.{ends_in, first_in, place_in}
use Rattle.slot_promote.proofs.promotion.blocks.Given as goal

abbrev pub invariant-loop-place : goal.invariant-loop-place
invariant-loop-place l =
    l.rows ++ blocks_with (place_in l.slots) l.slots.list.items (ends_in (place_in l.slots) l.ends) (row l.edges) (first_in l.firsts) l.place (drop l.place l.blocks)
    ≡ blocks_with (place_in l.slots) l.slots.list.items (ends_in (place_in l.slots) l.ends) (row l.edges) (first_in l.firsts) 0 l.blocks
