use Rattle.std.proofs.Common.{sym, ap, ◌∙◌}
use Rattle.ir_parse_names.specs.Bodies.{argument_in}
use Rattle.ir_parse_names.specs.Resolving.{each}
use Rattle.ir_parse_values.proofs.Following.{follows}
use Rattle.ir_parse_values.proofs.instr.address_in.Goals as goal

pub returns : goal.returns
returns c =
    follows _ c.in_ok-shape.ensures.given ∙ follows _ c.in_ok-base.ensures
    ∙ follows _ (ap (each (argument_in c.args.types.now c.args.locals.now)) (sym c.as_slice.ensures) ∙ c.in_ok-indices.ensures)
