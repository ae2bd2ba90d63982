use Rattle.ir_parse_values.proofs.Initials.{initial_is}
use Rattle.ir_parse_values.proofs.initialiser.init_in.Goals as goal

pub returns : goal.returns
returns c =
    rw (initial_is c.args.types.now c.new-locals.result c.args.shape.now c.args.init.now c.new-locals.ensures) (c.initial_in.ensures)
