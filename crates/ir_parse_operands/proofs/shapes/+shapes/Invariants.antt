use Rattle.std.proofs.Common.{◌≡◌, ◌+◌, ◌*◌, length}
use Rattle.ir_parse_parts.specs.Readers.{folded}
use Rattle.ir_parse_parts.proofs.Stars.{behind}
use Rattle.ir_parse_operands.specs.Extents.{Fits, left, members_extent, no_bytes}
use Rattle.ir_parse_operands.specs.ShapeFormsAt.{inner_at, shape_at}
use Rattle.ir_parse_parts.specs.Shapes.{parts_of}
use Rattle.ir_parse_operands.proofs.Members.{rest_at}
use Rattle.ir_parse_operands.proofs.shapes.+shapes.Given as goal

abbrev pub decreases-shape_at : goal.decreases-shape_at
decreases-shape_at a = 2 * a.depth

abbrev pub decreases-inner_at : goal.decreases-inner_at
decreases-inner_at a = 2 * a.depth + 1

abbrev pub invariant-inner_at-each : goal.invariant-inner_at-each
invariant-inner_at-each l = record {
  read : folded behind l.members.shapes.items (rest_at l.fn.packed (λ s. shape_at l.fn.depth (left l.fn.packed l.fn.room s)) l.more l.members.extent l.tokens) ≡ inner_at l.fn.packed (λ s. shape_at l.fn.depth (left l.fn.packed l.fn.room s)) l.fn.tokens;
  measured : l.members.extent ≡ members_extent l.fn.packed no_bytes (parts_of l.members.shapes.items);
  fits : Fits l.fn.room l.members.extent;
}

abbrev pub decreases-inner_at-each : goal.decreases-inner_at-each
decreases-inner_at-each l = length l.tokens
