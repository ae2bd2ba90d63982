use Rattle.std.proofs.Common.{◌≡◌, length}
use Rattle.ir_parse_names.specs.Symbols.{trimmed}
use Rattle.ir_parse_names.proofs.symbol.trimmed.Given as goal

abbrev pub invariant-each : goal.invariant-each
invariant-each l = trimmed l.rest ≡ trimmed l.digits

abbrev pub decreases-each : goal.decreases-each
decreases-each l = length l.rest
