-- Each part of a shape has fewer nodes than the shape.
use Rattle.std.specs.Prelude.{◌+◌, ◌≤◌, max, List, [], ◌∷◌}
use Rattle.std.proofs.Common.{arith}
use denote.Param.Weighed.{most}
use Rattle.ir_parse_parts.specs.declared.shape.WrittenShapeNode.{WrittenShapeNode}
use Rattle.ir_parse_parts.specs.declared.shape.WrittenShapeNode.TheVariants.{Int, Ptr, Array, Struct, Named}
use Rattle.ir_parse_parts.specs.declared.shape.WrittenShape.TheDeep.{deep-WrittenShapeNode}
use Rattle.ir_parse_parts.specs.Shapes.{Written, parts_of}
use Rattle.ir_parse_parts.specs.ShapeSizes.{nodes, all_nodes}
use Rattle.ir_parse_parts.specs.ShapeViews.{written_of}

pub most_le-all_nodes : (parts : List Written) → most (λ k. nodes k + 1) parts ≤ all_nodes (parts_of parts)
most_le-all_nodes [] = omega arith
most_le-all_nodes (k ∷ ks) = omega (arith, most_le-all_nodes ks)

pub depth_le-nodes : (node : WrittenShapeNode) → max (deep-WrittenShapeNode node) 0 ≤ nodes (written_of node)
depth_le-nodes (Int w) = omega arith
depth_le-nodes Ptr = omega arith
depth_le-nodes (Array count of) = omega arith
depth_le-nodes (Struct packed parts) = omega (arith, most_le-all_nodes parts.items)
depth_le-nodes (Named name) = omega arith
