use Rattle.std.proofs.Common.{◌≡◌, map, max, drop}
use Rattle.std.specs.Prelude.{flat_map}
use Rattle.ir_tree.specs.Flow.{definitions, room}
use Rattle.slot_promote.proofs.numbers.above_blocks.Given as goal

abbrev pub invariant-loop-block : goal.invariant-loop-block
invariant-loop-block l =
    max l.next (max (room (flat_map definitions (drop l.block-index l.blocks))) (room (map (λ b. b.number) (drop l.block-index l.blocks))))
    ≡ max (room (flat_map definitions l.blocks)) (room (map (λ b. b.number) l.blocks))
