use Rattle.std.proofs.Common.{ap}
use Rattle.ir_parse_operands.specs.declared.extents.Room.{Room}
use Rattle.ir_parse_operands.specs.ShapeFormsAt.{memory_shape_at, shape_at}
use Rattle.ir_parse_operands.proofs.Levels.{gives_as}
use Rattle.ir_parse_operands.proofs.shapes.memory_shape_at.Goals as goal

pub returns-clause-exact : goal.returns-clause-exact
unfolding memory_shape_at
returns-clause-exact c = gives_as _ _ _ _ (ap (λ (room : Room). shape_at 32 room c.args.tokens.now) c.whole.ensures.exact) c.shape_at.ensures.exact
