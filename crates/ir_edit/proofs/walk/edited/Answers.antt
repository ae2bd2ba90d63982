use Rattle.std.proofs.Common.{◌∙◌, ap, List, map}
use Rattle.ir_tree.specs.declared.block.Block.{Block}
use Rattle.ir_tree.specs.declared.function.Param.{Param}
use Rattle.ir_tree.specs.Edited.{block_edited, param_edited}
use Rattle.ir_edit.proofs.walk.edited.Goals as goal

pub returns : goal.returns
returns g c =
    let params = c.in_ok-params.ensures ∙ ap (λ (ps : List Param). map (param_edited (g.E.Edit.number_of c.args.edit.now)) ps) c.as_slice.ensures in
    let blocks = c.in_ok-blocks.ensures ∙ ap (λ (bs : List Block). map (block_edited (g.E.Edit.number_of c.args.edit.now) (g.E.Edit.operand_of c.args.edit.now)) bs) c.as_slice-2.ensures in
    λ i. record c.args.f.now { symbol = c.in_ok-symbol.ensures i; params = params i; blocks = blocks i }
