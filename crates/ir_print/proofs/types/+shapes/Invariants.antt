use Rattle.std.proofs.Common.{◌≡◌, ◌≤◌, ◌+◌, ◌*◌, ◌++◌, drop}
use Rattle.ir_lex.specs.Pieces.{bytes_of}
use Rattle.ir_tree.specs.Forms.{forms_of}
use Rattle.ir_tree.specs.Sizes.{nodes, all_nodes}
use Rattle.ir_print.specs.Types as types
use Rattle.ir_print.proofs.types.+shapes.Given as goal

abbrev pub decreases-shape : goal.decreases-shape
decreases-shape a = 4 * nodes a.of.now

abbrev pub decreases-array : goal.decreases-array
decreases-array a = 4 * nodes a.of.now + 3

abbrev pub decreases-packed_structure : goal.decreases-packed_structure
decreases-packed_structure a = 4 * all_nodes (forms_of a.parts.now) + 3

abbrev pub decreases-members : goal.decreases-members
decreases-members a = 4 * all_nodes (forms_of a.parts.now) + 2

abbrev pub decreases-further_members : goal.decreases-further_members
decreases-further_members a = 4 * all_nodes (forms_of a.parts.now) + 1

abbrev pub invariant-further_members-each : goal.invariant-further_members-each
invariant-further_members-each l = record {
  written : l.out.items ++ bytes_of (types.further_members (forms_of (drop l.part-index l.parts))) ≡ l.fn.out.items ++ bytes_of (types.further_members (forms_of l.fn.parts));
  left : all_nodes (forms_of (drop l.part-index l.parts)) ≤ all_nodes (forms_of l.fn.parts);
}
