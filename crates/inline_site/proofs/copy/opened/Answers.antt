use Rattle.std.proofs.Common.{◌∙◌, [], ◌∷◌, ◌++◌, List, ap}
use Rattle.ir_tree.specs.declared.block.Block.{Block}
use Rattle.inline_site.specs.Copying.{empty}
use Rattle.inline_site.proofs.copy.opened.Goals as goal

pub returns : goal.returns
returns c =
    let blocks = c.in_ok-push_empty.ensures ∙ ap (λ (bs : List Block). bs ++ empty c.args.last ∷ []) c.in_ok-blocks.ensures in
    λ i. record c.args.callee.now { symbol = c.in_ok-symbol.ensures i; params = c.new.ensures i; blocks = blocks i }
