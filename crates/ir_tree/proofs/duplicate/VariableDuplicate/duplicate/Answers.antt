use Rattle.std.proofs.Common.{◌∙◌, ap}
use Rattle.ir_tree.specs.Forms.{Form}
use Rattle.ir_tree.specs.declared.function.Variable.{Variable}
use Rattle.ir_tree.specs.declared.operand.Symbol.{Symbol}
use Rattle.ir_tree.proofs.duplicate.VariableDuplicate.duplicate.Goals as goal

pub returns : goal.returns
returns c =
    let old : Variable = c.args.self.now in
    ap (λ (s : Symbol). record old { symbol = s; shape = c.in_ok-shape.shape; init = c.in_ok-init.init }) c.in_ok-symbol.ensures
    ∙ ap (λ (f : Form). record old { shape = f; init = c.in_ok-init.init }) c.in_ok-shape.ensures
    ∙ ap (λ i. record old { init = i }) c.in_ok-init.ensures
