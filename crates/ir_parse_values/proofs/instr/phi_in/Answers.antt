use Rattle.std.proofs.Common.{sym, ap, ◌∙◌}
use Rattle.ir_parse_names.specs.Bodies.{incoming_in}
use Rattle.ir_parse_names.specs.Resolving.{each}
use Rattle.ir_parse_values.proofs.Following.{follows}
use Rattle.ir_parse_values.proofs.instr.phi_in.Goals as goal

pub returns : goal.returns
returns c = follows _ (ap (each (incoming_in c.args.types.now c.args.locals.now)) (sym c.as_slice.ensures) ∙ c.in_ok-incoming.ensures)
