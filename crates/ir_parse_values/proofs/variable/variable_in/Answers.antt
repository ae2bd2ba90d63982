use Rattle.std.proofs.Common.{ℕ, Ok, sym, ap, ◌∙◌}
use Rattle.ir_tree.specs.Layout.{align}
use Rattle.ir_tree.specs.declared.operand.Symbol.{Symbol}
use Rattle.ir_parse_names.specs.Bodies.{align_or}
use Rattle.ir_parse_names.specs.Variables.{variable_in}
use Rattle.ir_parse_values.proofs.Following.{follows}
use Rattle.ir_parse_values.proofs.variable.variable_in.Goals as goal

pub returns : goal.returns
unfolding variable_in
returns c =
    follows _ c.in_ok-shape.ensures.given ∙ follows _ c.in_ok-init.ensures
    ∙ ap (λ (s : Symbol). Ok (record { symbol = s; linkage = c.args.variable.now.linkage; constant = c.args.variable.now.constant; shape = c.in_ok-shape.shape; init = c.in_ok-init.init; align = align_or (align c.in_ok-shape.shape) c.args.variable.now.align })) (sym c.in_ok-symbol.ensures)
    ∙ ap (λ (n : ℕ). Ok (record { symbol = c.in_ok-symbol.symbol; linkage = c.args.variable.now.linkage; constant = c.args.variable.now.constant; shape = c.in_ok-shape.shape; init = c.in_ok-init.init; align = n })) (sym (c.align_or-align.ensures ∙ ap (λ (n : ℕ). align_or n c.args.variable.now.align) c.align_of.ensures))
