use Rattle.std.proofs.Common.{◌≡◌, ◌∙◌, List, ap, map}
use Rattle.ir_tree.specs.declared.block.Block.{Block}
use Rattle.branch_simplify.specs.Simplified.{lost_into, simplified_block}
use Rattle.branch_simplify.proofs.simplify.simplified.Goals as goal

pub returns : goal.returns
returns c = λ i. record {
  symbol = c.in_ok-symbol.ensures i;
  linkage = c.args.f.now.linkage;
  result = c.args.f.now.result;
  params = c.in_ok-params.ensures i;
  noinline = c.args.f.now.noinline;
  optnone = c.args.f.now.optnone;
  blocks = blocks i;
}
  where
    blocks : c.in_ok-blocks.blocks ≡ map (simplified_block (λ m. lost_into m c.args.f.now.blocks)) c.args.f.now.blocks
    blocks = c.in_ok-blocks.ensures ∙ ap (λ (bs : List Block). map (simplified_block (λ m. lost_into m bs)) bs) c.as_slice.ensures
