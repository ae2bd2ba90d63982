use Rattle.std.proofs.Common.{◌≡◌, ◌++◌, ◌-◌, take, length}
use Rattle.ir_machine.specs.Marks.{number_marks}
use Rattle.ir_machine.proofs.mark.put_number.Given as goal

abbrev pub invariant-loop-slot : goal.invariant-loop-slot
invariant-loop-slot l = take l.slot-index l.slots ++ number_marks (length l.slots - l.slot-index) l.rest ≡ number_marks (length l.fn.slots) l.fn.number
