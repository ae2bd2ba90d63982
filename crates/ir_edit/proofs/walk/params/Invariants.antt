use Rattle.std.proofs.Common.{◌≡◌, ◌++◌, drop, map}
use Rattle.ir_tree.specs.Edited.{param_edited}
use Rattle.ir_edit.proofs.walk.params.Given as goal

abbrev pub invariant-loop-old : goal.invariant-loop-old
invariant-loop-old g l = l.rows ++ map (param_edited (g.E.Edit.number_of l.edit)) (drop l.old-index l.params) ≡ map (param_edited (g.E.Edit.number_of l.edit)) l.params
