use Rattle.std.proofs.Common.{◌≡◌, ◌≤◌, drop}
use Rattle.ir_parse_parts.specs.Shapes.{parts_of}
use Rattle.ir_parse_parts.specs.ShapeSizes.{nodes, all_nodes}
use Rattle.ir_parse_names.specs.Resolving.{each}
use Rattle.ir_parse_names.proofs.Each.{in_front}
use Rattle.ir_parse_sizes.specs.Measures.{weigh, AreSmall}
use Rattle.ir_parse_sizes.proofs.weigh.+weighing.Given as goal

abbrev pub decreases-weigh : goal.decreases-weigh
decreases-weigh a = nodes a.shape.now

abbrev pub decreases-weigh_all : goal.decreases-weigh_all
decreases-weigh_all a = all_nodes (parts_of a.shapes.now)

abbrev pub invariant-weigh_all-each : goal.invariant-weigh_all-each
invariant-weigh_all-each l = record {
  rest : in_front l.out.items (each (weigh l.names l.known l.line) (drop l.shape-index l.shapes)) ≡ each (weigh l.names l.known l.line) l.shapes;
  small : AreSmall l.out.items;
  left : all_nodes (parts_of (drop l.shape-index l.shapes)) ≤ all_nodes (parts_of l.shapes);
}
