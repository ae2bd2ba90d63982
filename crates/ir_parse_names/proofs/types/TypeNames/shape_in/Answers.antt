use Rattle.std.proofs.Common.{Option, Result, sym, ap, ◌∙◌}
use Rattle.ir_parse_parts.specs.Shapes.{Written}
use Rattle.ir_parse_names.specs.declared.fault.Fault.{Fault}
use Rattle.ir_parse_names.specs.Resolving.{◌>>=◌}
use Rattle.ir_parse_names.specs.Types.{or_unknown}
use Rattle.ir_parse_names.proofs.types.TypeNames.shape_in.Goals as goal

pub returns-in-Some : goal.returns-in-Some
returns-in-Some c = ap (λ (r : Result (Option Written) Fault). r >>= λ entry. or_unknown c.args.name.now.line entry) c.in_ok-place.ensures ∙ ap (or_unknown c.args.name.now.line) (sym c.in-Some.ensures)
