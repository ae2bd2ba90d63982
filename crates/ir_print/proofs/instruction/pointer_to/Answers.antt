use Rattle.std.proofs.Common.{◌++◌, refl}
use Rattle.std.specs.Prelude.{codes}
use Rattle.ir_print.specs.Tokens.{comma, space, word}
use Rattle.ir_print.proofs.Written.{finish, respelt}
use Rattle.ir_print.proofs.instruction.pointer_to.Goals as goal

pub returns : goal.returns
returns c = finish _ _ _ _ _ _ (respelt _ (comma ++ word space (codes "ptr")) _ _ refl c.in_ok-word.ensures) c.operand.ensures
