use Rattle.std.proofs.Common.{◌∙◌, List, ap}
use Rattle.ir_tree.specs.declared.block.Block.{Block}
use Rattle.ir_tree.specs.declared.function.Function.{Function}
use Rattle.ir_tree.specs.declared.function.Param.{Param}
use Rattle.ir_tree.specs.declared.operand.Symbol.{Symbol}
use Rattle.ir_tree.proofs.duplicate.FunctionDuplicate.duplicate.Goals as goal

pub returns : goal.returns
returns c =
    let old : Function = c.args.self.now in
    let ps : List Param = c.in_ok-params.params in
    let bs : List Block = c.in_ok-blocks.blocks in
    ap (λ (s : Symbol). record old { symbol = s; params = ps; blocks = bs }) c.in_ok-symbol.ensures
    ∙ ap (λ (p : List Param). record old { params = p; blocks = bs }) c.in_ok-params.ensures
    ∙ ap (λ (b : List Block). record old { blocks = b }) c.in_ok-blocks.ensures
