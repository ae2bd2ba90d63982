use Rattle.std.proofs.Common.{◌≡◌, ◌++◌, drop, map}
use Rattle.ir_tree.specs.Edited.{line_edited}
use Rattle.ir_edit.proofs.walk.lines.Given as goal

abbrev pub invariant-loop-old : goal.invariant-loop-old
invariant-loop-old g l = l.rows ++ map (line_edited (g.E.Edit.number_of l.edit) (g.E.Edit.operand_of l.edit)) (drop l.old-index l.lines) ≡ map (line_edited (g.E.Edit.number_of l.edit) (g.E.Edit.operand_of l.edit)) l.lines
