use Rattle.std.proofs.Common.{subst}
use Rattle.run_program.specs.Arguments.{IsTyped}
use Rattle.run_program.proofs.given.argument.Goals as goal

pub literal-requires : goal.literal-requires
literal-requires c = subst IsTyped c.in-Int.is c.requires
