use Rattle.std.proofs.Common.{◌++◌, refl}
use Rattle.ir_print.specs.Tokens.{comma}
use Rattle.ir_print.specs.Blocks.{target}
use Rattle.ir_print.proofs.Written.{finish, respelt_last}
use Rattle.ir_print.proofs.block.decided.Goals as goal

pub returns : goal.returns
returns c = finish _ _ _ _ _ _ c.in_ok-operand.ensures (respelt_last _ _ (comma ++ target c.args.b) _ _ refl c.local.ensures)
