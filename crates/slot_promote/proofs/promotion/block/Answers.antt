use Rattle.std.proofs.Common.{◌≡◌, ◌++◌, ◌∙◌, List, ap}
use Rattle.ir_tree.specs.declared.instr.Phi.{Phi}
use Rattle.slot_promote.proofs.promotion.block.Goals as goal

pub returns : goal.returns
returns c = c.in_ok-made.ensures ∙ (λ i. record c.args.block.now { phis = phis i; lines = c.in_ok-lines.ensures i })
  where
    phis : c.in_ok-phis.phis ≡ c.args.new ++ c.args.block.now.phis
    phis = c.in_ok-phis.ensures ∙ ap (λ (ps : List Phi). c.args.new ++ ps) c.as_slice.ensures
