use Rattle.std.proofs.Common.{◌++◌}
use Rattle.std.specs.Prelude.{codes}
use Rattle.ir_print.specs.Tokens.{space, word}
use Rattle.ir_print.specs.Types.{register}
use Rattle.ir_print.proofs.Written.{finish, respelt_last, led_register}
use Rattle.ir_print.proofs.instruction.cast.Goals as goal

pub returns : goal.returns
returns c =
    finish _ _ _ _ _ _ (rw c.conversion.ensures.is at c.in_ok-word.ensures)
    (finish _ _ _ _ _ _ c.in_ok-typed.ensures (respelt_last _ _ (word space (codes "to") ++ register space c.args.to) _ _ (led_register (codes " to") c.args.to) c.register.ensures))
