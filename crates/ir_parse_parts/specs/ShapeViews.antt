-- The shape of a node whose parts' shapes are given.
use Rattle.ir_parse_parts.specs.declared.shape.WrittenShapeNode.{WrittenShapeNode}
use Rattle.ir_parse_parts.specs.declared.shape.WrittenShapeNode.TheVariants.{Int, Ptr, Array, Struct, Named}
use Rattle.ir_parse_parts.specs.Shapes.{Written, int, pointer, array, structure, named, parts_of}

abbrev pub written_of : WrittenShapeNode → Written
written_of (Int w) = int w
written_of Ptr = pointer
written_of (Array count of) = array count of.value
written_of (Struct packed parts) = structure packed (parts_of parts.items)
written_of (Named name) = named name
