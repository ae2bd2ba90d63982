use Rattle.std.proofs.Common.{◌≡◌, drop}
use Rattle.ir_parse_names.specs.Numbering.{with_params}
use Rattle.ir_parse_values.proofs.numbering.with_params.Given as goal

abbrev pub invariant-each : goal.invariant-each
invariant-each l = with_params l.locals (drop l.param-index l.params) ≡ with_params l.fn.locals l.params
