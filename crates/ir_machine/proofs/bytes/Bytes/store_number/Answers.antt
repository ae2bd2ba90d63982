use Rattle.std.proofs.Common.{ap, ◌∙◌, length}
use Rattle.ir_machine.specs.Bytes.{pointer_at}
use Rattle.ir_machine.specs.Marks.{are_small, number_marks}
use Rattle.ir_machine.proofs.Writing.{long_written, number_long, number_stored, small_number, small_written}
use Rattle.ir_machine.proofs.bytes.Bytes.store_number.Goals as goal

pub invariant_of-self : goal.invariant_of-self
invariant_of-self c = record {
  small = ap are_small c.write_number.ensures
      ∙ small_written c.args.place c.args.size c.args.self.now.marks.items (number_marks c.args.size c.args.number) c.args.self.now.small (small_number c.args.size c.args.number);
}

pub returns-clause-bytes : goal.returns-clause-bytes
returns-clause-bytes c = λ names.
    number_stored names (pointer_at c.args.self.now) c.args.place c.args.size c.args.number c.args.self.now.marks.items c.write_number.new.marks.items c.requires c.write_number.ensures

pub returns-clause-length : goal.returns-clause-length
returns-clause-length c =
    ap length c.write_number.ensures
    ∙ long_written c.args.place c.args.size c.args.self.now.marks.items (number_marks c.args.size c.args.number) c.requires (number_long c.args.size c.args.number)
