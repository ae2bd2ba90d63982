use Rattle.std.proofs.Common.{ℕ, List, ap, ◌∙◌}
use Rattle.ir_machine.specs.Bytes.{marks_meant, pointer_or_null}
use Rattle.ir_machine.specs.Marks.{are_small}
use Rattle.ir_machine.specs.declared.mark.ByteMark.{ByteMark}
use Rattle.ir_machine.specs.declared.mark.ByteMark.TheVariants.{Unset}
use Rattle.ir_machine.proofs.Filling.{filled, unset_meant, unset_small}
use Rattle.ir_machine.proofs.Origins.{none_in}
use Rattle.ir_machine.proofs.bytes.Bytes.unset.Goals as goal

pub invariant_of-result : goal.invariant_of-result
invariant_of-result c = record {
  small = ap are_small (filled c.args.size _ c.new-marks.result.items c.resize.new.self.items Unset c.in_ok-resize.ensures.items c.new-marks.ensures.items c.new-marks.ensures.len) ∙ unset_small c.args.size;
}

pub returns-clause-bytes : goal.returns-clause-bytes
returns-clause-bytes c = λ names.
    ap (λ (ms : List ByteMark). marks_meant names (λ (r : ℕ). pointer_or_null (Rattle.std.specs.HashMap.get Rattle.std.specs.Prelude.nat_eq c.new.result r)) 0 ms)
    (filled c.args.size _ c.new-marks.result.items c.resize.new.self.items Unset c.in_ok-resize.ensures.items c.new-marks.ensures.items c.new-marks.ensures.len)
    ∙ unset_meant names (λ (r : ℕ). pointer_or_null (Rattle.std.specs.HashMap.get Rattle.std.specs.Prelude.nat_eq c.new.result r)) 0 c.args.size

pub returns-clause-empty : goal.returns-clause-empty
returns-clause-empty c = λ p h. none_in c.new.result.entries c.new.ensures.empty p h.0 h.1
