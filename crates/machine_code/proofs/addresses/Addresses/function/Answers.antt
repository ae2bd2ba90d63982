use Rattle.std.proofs.Common.{◌≡◌, ◌+◌, List, length, sym, ap, subst, ◌∙◌, arith}
use Rattle.std.specs.Prelude.{All}
use Rattle.ir_tree.specs.declared.block.Block.{Block as MeantBlock}
use Rattle.ir_tree.specs.declared.function.Param.{Param}
use Rattle.ir_interp.specs.Code.{counted_before, locals_of}
use Rattle.machine_code.specs.Blocks.{AreBlocksFor, IsSoundBlock}
use Rattle.machine_code.proofs.addresses.Addresses.function.Goals as goal

pub blocks-requires : goal.blocks-requires
blocks-requires c = subst (λ (bs : List MeantBlock). All IsSoundBlock bs) (sym c.as_slice-tree.ensures) c.requires

pub returns : goal.returns
returns c =
    let tree = c.as_slice-tree.result.now in
    let parts : c.in_ok-registers.registers ≡ length c.args.function.now.params + counted_before tree (length tree) =
    omega (arith, c.in_ok-registers.ensures, c.len.ensures, c.in_ok-blocks.ensures.count) in
    record {
      params = c.in_ok-params.ensures ∙ ap (λ (ps : List Param). locals_of ps) c.as_slice.ensures;
      registers = parts ∙ ap (λ (bs : List MeantBlock). length c.args.function.now.params + counted_before bs (length bs)) c.as_slice-tree.ensures;
      long = c.in_ok-blocks.ensures.long ∙ ap (λ (bs : List MeantBlock). length bs) c.as_slice-tree.ensures;
      blocks = subst (λ (bs : List MeantBlock). AreBlocksFor c.args.self.now bs c.in_ok-blocks.field-0.blocks.items) c.as_slice-tree.ensures c.in_ok-blocks.ensures.each;
    }
