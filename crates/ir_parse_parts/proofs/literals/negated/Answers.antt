use Rattle.std.proofs.Common.{◌≡◌, sym, arith}
use Rattle.ir_parse_parts.specs.Decimals.{decimal}
use Rattle.ir_parse_parts.proofs.Widths.{half_pow, negative}
use Rattle.ir_parse_parts.proofs.literals.negated.Goals as goal

pub overflow_sub-result : goal.overflow_sub-result
overflow_sub-result c = omega (arith, half_pow c.args.width c.requires.positive, c.greatest-most.ensures, c.in-Some.n-test.1)

pub returns-in-Some : goal.returns-in-Some
returns-in-Some c = negative c.args.width c.greatest-most.result c.in-Some.n (decimal c.args.digits.now) (sym c.in-Some.ensures) c.in-Some.n-test.1 c.greatest-most.ensures (half_pow c.args.width c.requires.positive) c.if-n-half.true
