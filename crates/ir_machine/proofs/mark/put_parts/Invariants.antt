use Rattle.std.proofs.Common.{◌≡◌, ◌++◌, ◌-◌, take, length}
use Rattle.ir_machine.specs.Marks.{part_marks}
use Rattle.ir_machine.proofs.mark.put_parts.Given as goal

abbrev pub invariant-loop-slot : goal.invariant-loop-slot
invariant-loop-slot l = record {
  counted : l.index ≡ l.slot-index;
  written : take l.slot-index l.slots ++ part_marks (length l.slots - l.slot-index) l.index ≡ part_marks (length l.fn.slots) 0;
}
