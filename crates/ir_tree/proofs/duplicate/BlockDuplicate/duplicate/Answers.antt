use Rattle.std.proofs.Common.{◌∙◌, List, ap}
use Rattle.ir_tree.specs.declared.block.Block.{Block}
use Rattle.ir_tree.specs.declared.block.Terminator.{Terminator}
use Rattle.ir_tree.specs.declared.instr.Line.{Line}
use Rattle.ir_tree.specs.declared.instr.Phi.{Phi}
use Rattle.ir_tree.proofs.duplicate.BlockDuplicate.duplicate.Goals as goal

pub returns : goal.returns
returns c =
    let old : Block = c.args.self.now in
    ap (λ (p : List Phi). record old { phis = p; lines = c.in_ok-lines.lines; end = c.in_ok-end.end }) c.in_ok-phis.ensures
    ∙ ap (λ (l : List Line). record old { lines = l; end = c.in_ok-end.end }) c.in_ok-lines.ensures
    ∙ ap (λ (t : Terminator). record old { end = t }) c.in_ok-end.ensures
