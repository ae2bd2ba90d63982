use Rattle.std.proofs.Common.{◌++◌, List, ℕ, sym, ap}
use Rattle.std.specs.Prelude.{codes}
use Rattle.ir_print.specs.Tokens.{space, width, word}
use Rattle.ir_print.specs.Operands.{operand}
use Rattle.ir_print.specs.Instructions.{arm}
use Rattle.ir_print.proofs.Written.{finish, respelt, respelt_last, led_by_register, one_bit}
use Rattle.ir_print.proofs.instruction.select.Goals as goal

pub returns : goal.returns
returns c =
    let a = c.args.a.now in
    let b = c.args.b.now in
    finish _ _ _ _ _ _ (respelt _ (word c.args.lead.now (codes "select") ++ width space 1) _ _ (ap (λ (ds : List ℕ). c.args.lead.now ++ (codes "select i" ++ ds)) (sym one_bit)) c.in_ok-word.ensures)
    (finish _ _ _ _ _ _ c.in_ok-operand.ensures
    (finish _ _ _ _ _ _ (respelt _ (arm a) _ _ (led_by_register (codes ",") a.reg (operand space a.operand)) c.in_ok-typed.ensures)
    (respelt_last _ _ (arm b) _ _ (led_by_register (codes ",") b.reg (operand space b.operand)) c.typed-2.ensures)))
