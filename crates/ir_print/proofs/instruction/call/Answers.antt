use Rattle.ir_print.proofs.Written.{finish}
use Rattle.ir_print.proofs.instruction.call.Goals as goal

pub returns : goal.returns
returns c = finish _ _ _ _ _ _ c.in_ok-word.ensures (finish _ _ _ _ _ _ c.in_ok-result_type.ensures (finish _ _ _ _ _ _ c.in_ok-operand.ensures (finish _ _ _ _ _ _ c.in_ok-mark.ensures (finish _ _ _ _ _ _ c.in_ok-all_typed.ensures c.mark-2.ensures))))
