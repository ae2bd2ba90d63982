use Rattle.std.proofs.Common.{◌≡◌, ◌<◌, ◌^◌, drop}
use Rattle.ir_parse_names.specs.Keys.{decimal_from}
use Rattle.ir_parse_names.proofs.number.decimal_of.Given as goal

abbrev pub invariant-loop-d : goal.invariant-loop-d
invariant-loop-d l = record { value : decimal_from l.n (drop l.d-index l.digits) ≡ decimal_from 0 l.digits; fits : l.n < 2 ^ 32 }
