use Rattle.std.proofs.Common.{◌≡◌, ◌≤◌, drop, max}
use Rattle.ir_tree.specs.Forms.{forms_of}
use Rattle.ir_tree.specs.Layout as layout
use Rattle.ir_interp.proofs.extent.widest.Given as goal

abbrev pub invariant-loop-part : goal.invariant-loop-part
invariant-loop-part l = record {
  most : max l.most (layout.widest (forms_of (drop l.part-index l.parts))) ≡ layout.widest (forms_of l.parts);
  least : 1 ≤ l.most;
  laid : layout.AreLaidOut (forms_of (drop l.part-index l.parts));
}
