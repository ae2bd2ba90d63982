use Rattle.std.proofs.Common.{◌≡◌, ◌++◌, drop, map}
use Rattle.ir_tree.specs.Edited.{incoming_edited}
use Rattle.ir_edit.proofs.operands.edges_edited.Given as goal

abbrev pub invariant-loop-old : goal.invariant-loop-old
invariant-loop-old g l = l.rows ++ map (incoming_edited (g.E.Edit.number_of l.edit) (g.E.Edit.operand_of l.edit)) (drop l.old-index l.incoming) ≡ map (incoming_edited (g.E.Edit.number_of l.edit) (g.E.Edit.operand_of l.edit)) l.incoming
