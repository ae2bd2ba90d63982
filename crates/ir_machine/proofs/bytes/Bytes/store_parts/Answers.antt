use Rattle.std.proofs.Common.{◌≢◌, ℕ, nat_eq, refl, ap, ◌∙◌}
use Rattle.ir_machine.specs.Bytes.{pointer_at, pointer_or_null}
use Rattle.ir_machine.specs.Marks.{are_small, part_marks}
use Rattle.ir_machine.specs.declared.scalar.Scalar.TheVariants as scalar
use Rattle.ir_machine.proofs.Origins.{apart, put_holds, unchanged_holds}
use Rattle.ir_machine.proofs.Writing.{pointer_stored, small_written}
use Rattle.ir_machine.proofs.bytes.Bytes.store_parts.Goals as goal

pub invariant_of-self-2 : goal.invariant_of-self-2
invariant_of-self-2 c = record {
  small = ap are_small c.write_parts.ensures
      ∙ small_written c.args.place 8 c.args.self.now.marks.items (part_marks 8 0) c.args.self.now.small refl;
}

pub returns-clause-ok : goal.returns-clause-ok
returns-clause-ok c = λ names.
    pointer_stored names (pointer_at c.args.self.now) (λ (r : ℕ). pointer_or_null (Rattle.std.specs.HashMap.get nat_eq c.insert.new.self r)) c.args.place c.args.pointer c.args.self.now.marks.items c.write_parts.new.marks.items
    (λ (r : ℕ) (ne : r ≢ c.args.place). ap pointer_or_null (c.in_ok-insert.ensures.updates.2 r (apart c.args.place r ne)))
    (ap pointer_or_null c.in_ok-insert.ensures.updates.1)
    c.args.self.now.small c.requires c.write_parts.ensures

pub returns-clause-held : goal.returns-clause-held
returns-clause-held c = λ p h.
    put_holds c.args.self.now.pointers.entries c.insert.new.self.entries c.args.place c.args.pointer c.in_ok-insert.ensures.updates.1 c.in_ok-insert.ensures.updates.2 p h.0 h.1

pub returns-in_err-insert-clause-held : goal.returns-in_err-insert-clause-held
returns-in_err-insert-clause-held c = unchanged_holds c.args.self.now.pointers.entries c.insert.new.self.entries (scalar.Pointer c.args.pointer) c.in_err-insert.ensures.err
