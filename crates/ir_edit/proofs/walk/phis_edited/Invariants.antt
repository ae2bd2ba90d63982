use Rattle.std.proofs.Common.{◌≡◌, ◌++◌, drop, map}
use Rattle.ir_tree.specs.Edited.{phi_edited}
use Rattle.ir_edit.proofs.walk.phis_edited.Given as goal

abbrev pub invariant-loop-old : goal.invariant-loop-old
invariant-loop-old g l = l.rows ++ map (phi_edited (g.E.Edit.number_of l.edit) (g.E.Edit.operand_of l.edit)) (drop l.old-index l.phis) ≡ map (phi_edited (g.E.Edit.number_of l.edit) (g.E.Edit.operand_of l.edit)) l.phis
