use Rattle.std.proofs.Common.{◌≡◌, ◌≤◌, ◌^◌, drop}
use Rattle.ir_tree.specs.Forms.{forms_of}
use Rattle.ir_tree.specs.Layout as layout
use Rattle.ir_interp.proofs.extent.end_of.Given as goal

abbrev pub invariant-loop-part : goal.invariant-loop-part
invariant-loop-part l = record {
  total : layout.ends l.packed l.end (forms_of (drop l.part-index l.parts)) ≡ layout.ends l.packed 0 (forms_of l.parts);
  near : l.end ≤ 2 ^ 31;
  laid : layout.AreLaidOut (forms_of (drop l.part-index l.parts));
}
