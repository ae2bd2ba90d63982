use Rattle.ir_parse_globals.proofs.Scalars.{scalar_is_register}
use Rattle.ir_parse_globals.proofs.initialisers.shape_at.Goals as goal

pub returns-clause-ranged : goal.returns-clause-ranged
returns-clause-ranged c = scalar_is_register _ _ _ c.in_ok-shape.ensures.exact
