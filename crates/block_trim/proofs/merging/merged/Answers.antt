use Rattle.std.proofs.Common.{◌∙◌, List, sym, ap, subst}
use Rattle.ir_tree.specs.declared.block.Block.{Block}
use Rattle.block_trim.specs.Merged.{IsOneOf}
use Rattle.block_trim.specs.Working.{blocks_taken, left, naming}
use Rattle.block_trim.proofs.Loops.{is_merge}
use Rattle.block_trim.proofs.merging.merged.Goals as goal

pub returns : goal.returns
returns c once =
    is_merge c.args.f.now c.grow_all.new.self _ once
    (c.in_ok-grow_all.ensures.joined c.args.f.now (sym c.as_slice-old.ensures) once (c.in_ok-joining.ensures c.args.f.now (sym c.as_slice-old.ensures) once))
    (λ b at. c.in_ok-grow_all.ensures.done b (subst (λ (bs : List Block). IsOneOf bs b) (sym c.as_slice-old.ensures) at))
    (λ i. record {
      symbol = c.in_ok-symbol.ensures i;
      linkage = c.args.f.now.linkage;
      result = c.args.f.now.result;
      params = c.in_ok-params.ensures i;
      noinline = c.args.f.now.noinline;
      optnone = c.args.f.now.optnone;
      blocks = (c.in_ok-blocks.ensures ∙ ap (blocks_taken (naming c.grow_all.new.self.joins.items) (left c.grow_all.new.self)) c.as_slice-old.ensures) i;
    })
