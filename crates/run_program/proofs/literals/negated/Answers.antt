use Rattle.std.proofs.Common.{refl, arith}
use Rattle.ir_parse_parts.proofs.Widths.{half_pow, negative}
use Rattle.run_program.proofs.Widths.{too_great}
use Rattle.run_program.proofs.literals.negated.Goals as goal

pub returns-then-magnitude-half : goal.returns-then-magnitude-half
returns-then-magnitude-half c = too_great c.args.width c.greatest-most.result c.args.magnitude c.requires.positive c.greatest-most.ensures c.if-magnitude-half.true

pub overflow_sub-result : goal.overflow_sub-result
overflow_sub-result c = omega (arith, half_pow c.args.width c.requires.positive, c.greatest-most.ensures, c.if-magnitude-half.false)

pub returns : goal.returns
returns c =
    negative c.args.width c.greatest-most.result c.args.magnitude c.args.magnitude refl (λ e. absurd (omega (arith, e))) c.greatest-most.ensures (half_pow c.args.width c.requires.positive) c.if-magnitude-half.false
