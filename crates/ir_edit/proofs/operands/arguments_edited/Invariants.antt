use Rattle.std.proofs.Common.{◌≡◌, ◌++◌, drop, map}
use Rattle.ir_tree.specs.Edited.{argument_edited}
use Rattle.ir_edit.proofs.operands.arguments_edited.Given as goal

abbrev pub invariant-loop-old : goal.invariant-loop-old
invariant-loop-old g l = l.rows ++ map (argument_edited (g.E.Edit.operand_of l.edit)) (drop l.old-index l.arguments) ≡ map (argument_edited (g.E.Edit.operand_of l.edit)) l.arguments
