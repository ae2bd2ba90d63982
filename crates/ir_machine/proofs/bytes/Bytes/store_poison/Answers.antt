use Rattle.std.proofs.Common.{ap, ◌∙◌, replicate}
use Rattle.ir_machine.specs.Bytes.{pointer_at}
use Rattle.ir_machine.specs.Marks.{are_small}
use Rattle.ir_machine.specs.declared.mark.ByteMark.TheVariants.{Spoilt}
use Rattle.ir_machine.proofs.Writing.{poison_stored, small_poison, small_written}
use Rattle.ir_machine.proofs.bytes.Bytes.store_poison.Goals as goal

pub invariant_of-self : goal.invariant_of-self
invariant_of-self c = record {
  small = ap are_small c.write_poison.ensures
      ∙ small_written c.args.place c.args.size c.args.self.now.marks.items (replicate c.args.size Spoilt) c.args.self.now.small (small_poison c.args.size);
}

pub returns-clause-bytes : goal.returns-clause-bytes
returns-clause-bytes c = λ names.
    poison_stored names (pointer_at c.args.self.now) c.args.place c.args.size c.args.self.now.marks.items c.write_poison.new.marks.items c.requires c.write_poison.ensures
