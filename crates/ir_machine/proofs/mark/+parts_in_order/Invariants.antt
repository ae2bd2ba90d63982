use Rattle.std.proofs.Common.{length}
use Rattle.ir_machine.proofs.mark.+parts_in_order.Given as goal

abbrev pub decreases-parts_in_order : goal.decreases-parts_in_order
decreases-parts_in_order l = length l.marks.now
