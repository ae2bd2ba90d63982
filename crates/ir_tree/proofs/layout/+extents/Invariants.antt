use Rattle.std.proofs.Common.{◌≡◌, ◌≤◌, ◌^◌, drop, max}
use Rattle.ir_tree.specs.Forms.{forms_of}
use Rattle.ir_tree.specs.Layout as layout
use Rattle.ir_tree.specs.Sizes.{nodes, all_nodes}
use Rattle.ir_tree.proofs.layout.+extents.Given as goal

abbrev pub decreases-extent_of : goal.decreases-extent_of
decreases-extent_of a = nodes a.shape.now

abbrev pub decreases-together : goal.decreases-together
decreases-together a = all_nodes (forms_of a.parts.now)

abbrev pub invariant-together-loop-part : goal.invariant-together-loop-part
invariant-together-loop-part l = record {
  total : layout.ends l.packed l.end (forms_of (drop l.part-index l.parts)) ≡ layout.ends l.packed 0 (forms_of l.parts);
  most : max l.widest (layout.widest (forms_of (drop l.part-index l.parts))) ≡ layout.widest (forms_of l.parts);
  near : l.end ≤ 2 ^ 31;
  least : 1 ≤ l.widest;
  laid : layout.AreLaidOut (forms_of (drop l.part-index l.parts));
  left : all_nodes (forms_of (drop l.part-index l.parts)) ≤ all_nodes (forms_of l.parts);
}
