use Rattle.std.proofs.Common.{◌≤◌, drop}
use Rattle.ir_tree.specs.Forms.{forms_of}
use Rattle.ir_tree.specs.Layout as layout
use Rattle.ir_tree.specs.Sizes.{nodes, all_nodes}
use Rattle.ir_interp.proofs.extent.+laid.Given as goal

abbrev pub decreases-is_laid_out : goal.decreases-is_laid_out
decreases-is_laid_out a = nodes a.shape.now

abbrev pub decreases-are_laid_out : goal.decreases-are_laid_out
decreases-are_laid_out a = all_nodes (forms_of a.parts.now)

abbrev pub invariant-are_laid_out-loop-part : goal.invariant-are_laid_out-loop-part
invariant-are_laid_out-loop-part l = record {
  all : layout.AreLaidOut (forms_of (drop l.part-index l.parts)) → layout.AreLaidOut (forms_of l.parts);
  rest : layout.AreLaidOut (forms_of l.parts) → layout.AreLaidOut (forms_of (drop l.part-index l.parts));
  left : all_nodes (forms_of (drop l.part-index l.parts)) ≤ all_nodes (forms_of l.parts);
}
