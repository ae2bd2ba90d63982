use Rattle.std.proofs.Common.{List, map, rules, subst}
use Rattle.ir_tree.specs.Formed.{Distinct}
use Rattle.ir_tree.specs.declared.block.Block.{Block}
use Rattle.block_trim.proofs.Start.{start}
use Rattle.block_trim.proofs.joining.Joining.of.Goals as goal

pub returns : goal.returns
returns c = λ f is once.
    start f _ c.args.blocks.now is (search rules) (c.in_ok-contents.ensures (subst (λ (bs : List Block). Distinct (map (λ b. b.number) bs)) is once)) c.requires
