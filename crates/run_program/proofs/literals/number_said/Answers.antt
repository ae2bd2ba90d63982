use Rattle.std.proofs.Common.{refl, arith}
use Rattle.run_program.proofs.Widths.{negative_said, positive_said}
use Rattle.run_program.proofs.literals.number_said.Goals as goal

pub returns-then-bits-half : goal.returns-then-bits-half
returns-then-bits-half c =
    positive_said c.args.width c.greatest-most.result c.args.bits (λ e. absurd (omega (arith, e))) c.requires.some.positive c.greatest-most.ensures c.if-bits-half.true

pub returns : goal.returns
returns c =
    negative_said c.args.width c.greatest-most.result c.args.bits (λ e. absurd (omega (arith, e))) c.requires.some.positive c.greatest-most.ensures c.if-bits-half.false _ refl c.requires.below
