use Rattle.std.proofs.Common.{◌≡◌, map, take}
use Rattle.ir_flow.proofs.predecessors.block_numbers.Given as goal

abbrev pub invariant-loop-block : goal.invariant-loop-block
invariant-loop-block l = l.numbers.items ≡ map (λ b. b.number) (take l.block-index l.blocks)
