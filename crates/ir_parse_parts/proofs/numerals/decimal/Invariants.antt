use Rattle.std.proofs.Common.{◌≡◌, drop}
use Rattle.std.specs.List.{fold}
use Rattle.ir_parse_parts.specs.Decimals.{decimal, with_digit}
use Rattle.ir_parse_parts.proofs.numerals.decimal.Given as goal

abbrev pub invariant-each : goal.invariant-each
invariant-each l = fold with_digit l.n (drop l.digit-index l.digits) ≡ decimal l.digits
