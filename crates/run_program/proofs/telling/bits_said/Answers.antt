use Rattle.std.proofs.Common.{arith}
use Rattle.run_program.proofs.telling.bits_said.Goals as goal

pub bits_of-requires : goal.bits_of-requires
bits_of-requires c = record { some = omega (arith, c.requires.positive); within = c.requires.narrow }

pub number_said-requires : goal.number_said-requires
number_said-requires c = record { some = c.requires; below = c.in-Some.ensures.below }
