use Rattle.std.proofs.Common.{arith}
use Rattle.ir_machine.proofs.Marking.{number_written}
use Rattle.ir_machine.proofs.mark.put_number.Goals as goal

pub loop-slot-preserved : goal.loop-slot-preserved
loop-slot-preserved c = number_written c.loop-slot.slots c.loop-slot.slot-index c.loop-slot.rest _ (omega arith) c.loop-slot.invariant
