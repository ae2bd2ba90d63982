use Rattle.std.proofs.Common.{◌≡◌, ◌≤◌, ◌++◌, drop}
use Rattle.ir_parse_parts.specs.Shapes.{parts_of}
use Rattle.ir_parse_parts.specs.ShapeSizes.{nodes, all_nodes}
use Rattle.ir_parse_names.specs.Marks.{all_uses}
use Rattle.ir_parse_stages.proofs.uses.+shapes.Given as goal

abbrev pub decreases-uses : goal.decreases-uses
decreases-uses a = nodes a.shape.now

abbrev pub decreases-all_uses : goal.decreases-all_uses
decreases-all_uses a = all_nodes (parts_of a.parts.now)

abbrev pub invariant-all_uses-each : goal.invariant-all_uses-each
invariant-all_uses-each l = record {
  rest : l.marks ++ all_uses (parts_of (drop l.part-index l.parts)) ≡ l.fn.marks ++ all_uses (parts_of l.fn.parts);
  left : all_nodes (parts_of (drop l.part-index l.parts)) ≤ all_nodes (parts_of l.fn.parts);
}
