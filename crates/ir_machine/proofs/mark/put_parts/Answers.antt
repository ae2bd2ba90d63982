use Rattle.std.proofs.Common.{◌≡◌, ◌+◌, ◌-◌, ◌<◌, ℕ, List, ◌++◌, length, take, set, sym, subst, arith}
use Rattle.ir_machine.specs.Marks.{part_marks}
use Rattle.ir_machine.specs.declared.mark.ByteMark.{ByteMark}
use Rattle.ir_machine.specs.declared.mark.ByteMark.TheVariants.{Part}
use Rattle.ir_machine.proofs.Marking.{parts_written}
use Rattle.ir_machine.proofs.mark.put_parts.Goals as goal

step : (xs : List ByteMark) (i j : ℕ) (all : List ByteMark) → j ≡ i → i < length xs → take i xs ++ part_marks (length xs - i) j ≡ all →
    take (i + 1) (set xs i (Part j)) ++ part_marks (length (set xs i (Part j)) - (i + 1)) (j + 1) ≡ all
step xs i j all e h = subst (λ (k : ℕ). take i xs ++ part_marks (length xs - i) k ≡ all →
    take (i + 1) (set xs i (Part k)) ++ part_marks (length (set xs i (Part k)) - (i + 1)) (k + 1) ≡ all) (sym e) (parts_written xs i all h)

pub loop-slot-preserved : goal.loop-slot-preserved
loop-slot-preserved c = record {
  counted = omega arith;
  written = step c.loop-slot.slots c.loop-slot.slot-index c.loop-slot.index _ c.loop-slot.invariant.counted (omega arith) c.loop-slot.invariant.written;
}
