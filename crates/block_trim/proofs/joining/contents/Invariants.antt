use Rattle.std.proofs.Common.{map, nat_eq}
use Rattle.std.specs.HashMap.{get}
use Rattle.ir_tree.specs.Formed.{Distinct}
use Rattle.block_trim.specs.Working.{HasContents}
use Rattle.block_trim.proofs.joining.contents.Given as goal

abbrev pub invariant-loop-block : goal.invariant-loop-block
invariant-loop-block l = Distinct (map (λ b. b.number) l.blocks) → HasContents l.block-index l.blocks (get nat_eq l.contents)
