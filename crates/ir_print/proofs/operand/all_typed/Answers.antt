use Rattle.std.proofs.Common.{refl}
use Rattle.ir_tree.specs.declared.operand.Argument.{Argument}
use Rattle.ir_print.specs.Tokens.{tight}
use Rattle.ir_print.specs.Operands as operands
use Rattle.ir_print.proofs.Written.{first_on}
use Rattle.ir_print.proofs.operand.all_typed.Goals as goal

pub returns-in_ok-typed-in-len1-up : goal.returns-in_ok-typed-in-len1-up
returns-in_ok-typed-in-len1-up c = first_on _ (λ (a : Argument). operands.typed tight a.reg a.operand) operands.further_typed operands.all_typed (λ y ys. refl) c.args.list.now c.first-item.result _ c.in-len1-up.len_at_least c.first-item.is _ _ _ c.in_ok-typed-in-len1-up.ensures c.further_typed.ensures
