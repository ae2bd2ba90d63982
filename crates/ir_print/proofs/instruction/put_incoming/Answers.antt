use Rattle.std.proofs.Common.{◌++◌, refl}
use Rattle.ir_print.specs.Tokens.{comma, local, space}
use Rattle.ir_print.proofs.Written.{finish, respelt}
use Rattle.ir_print.proofs.instruction.put_incoming.Goals as goal

pub returns : goal.returns
returns c =
    finish _ _ _ _ _ _ c.in_ok-mark.ensures (finish _ _ _ _ _ _ c.in_ok-operand.ensures
    (finish _ _ _ _ _ _ (respelt _ (comma ++ local space c.args.i.now.from) _ _ refl c.in_ok-local.ensures) c.mark-2.ensures))
