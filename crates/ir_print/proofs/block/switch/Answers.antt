use Rattle.std.proofs.Common.{◌++◌, refl}
use Rattle.std.specs.Prelude.{codes}
use Rattle.ir_print.specs.Tokens.{indent, space, width, word}
use Rattle.ir_print.proofs.Written.{finish, respelt}
use Rattle.ir_print.proofs.block.switch.Goals as goal

pub returns : goal.returns
returns c =
    finish _ _ _ _ _ _ (respelt _ (word indent (codes "switch") ++ width space c.args.w) _ _ refl c.in_ok-width.ensures)
    (finish _ _ _ _ _ _ c.in_ok-decided.ensures (finish _ _ _ _ _ _ c.in_ok-mark.ensures (finish _ _ _ _ _ _ c.in_ok-put_cases.ensures c.mark-2.ensures)))
