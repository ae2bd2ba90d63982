use Rattle.std.proofs.Common.{Ok, sym, ap, ◌∙◌}
use Rattle.ir_parse_names.specs.Types.{Types}
use Rattle.ir_parse_stages.proofs.type_names.types_off_circles.Goals as goal

pub returns : goal.returns
returns c = c.in_ok-names.ensures ∙ ap (λ (types : Types). Ok types) (sym c.in_ok-types.ensures)
