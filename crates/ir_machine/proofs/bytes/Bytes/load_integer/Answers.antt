use Rattle.std.proofs.Common.{◌+◌, ◌-◌, List, take, drop, sym, ap, ◌∙◌, arith}
use Rattle.ir_tree.specs.declared.operand.Reg.TheVariants.{Int}
use Rattle.ir_meaning.specs.Bytes.{read}
use Rattle.ir_meaning.specs.declared.value.Byte.{Byte}
use Rattle.ir_machine.specs.Bytes.{pointer_at}
use Rattle.ir_machine.proofs.Reading.{integer_read, mixed_read, unset_read}
use Rattle.ir_machine.proofs.Windows.{window_of}
use Rattle.ir_machine.proofs.bytes.Bytes.load_integer.Goals as goal

pub returns-in-Some-clause-value : goal.returns-in-Some-clause-value
returns-in-Some-clause-value c = λ names w.
    sym (ap (λ (bs : List Byte). read (Int w) bs)
    (window_of names (pointer_at c.args.self.now) c.args.size (c.args.place + c.args.size - c.args.place) c.args.place c.args.self.now.marks.items c.deref.result.now c.deref.ensures.value (omega arith))
    ∙ integer_read names (pointer_at c.args.self.now) c.args.place w c.in-Some.number (take (c.args.place + c.args.size - c.args.place) (drop c.args.place c.deref.result.now)) (sym c.number_in.ensures.number ∙ c.in-Some.is))

pub returns-then-any_unset-clause-value : goal.returns-then-any_unset-clause-value
returns-then-any_unset-clause-value c = λ names w.
    sym (ap (λ (bs : List Byte). read (Int w) bs)
    (window_of names (pointer_at c.args.self.now) c.args.size (c.args.place + c.args.size - c.args.place) c.args.place c.args.self.now.marks.items c.deref.result.now c.deref.ensures.value (omega arith))
    ∙ unset_read names (pointer_at c.args.self.now) c.args.place w (take (c.args.place + c.args.size - c.args.place) (drop c.args.place c.deref.result.now)) (sym c.any_unset.ensures ∙ c.if-any_unset.true))

pub returns-else-any_unset-clause-value : goal.returns-else-any_unset-clause-value
returns-else-any_unset-clause-value c = λ names w.
    sym (ap (λ (bs : List Byte). read (Int w) bs)
    (window_of names (pointer_at c.args.self.now) c.args.size (c.args.place + c.args.size - c.args.place) c.args.place c.args.self.now.marks.items c.deref.result.now c.deref.ensures.value (omega arith))
    ∙ mixed_read names (pointer_at c.args.self.now) c.args.place w (take (c.args.place + c.args.size - c.args.place) (drop c.args.place c.deref.result.now)) (sym c.any_unset.ensures ∙ c.if-any_unset.false) (sym c.number_in.ensures.number ∙ c.in-None.is))
