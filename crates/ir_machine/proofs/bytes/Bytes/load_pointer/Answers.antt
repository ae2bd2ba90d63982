use Rattle.std.proofs.Common.{◌≡◌, ◌+◌, ◌-◌, ◌≤◌, ℕ, List, length, take, drop, sym, ap, subst, ◌∙◌, arith}
use Rattle.std.proofs.lemmas.List.{length-drop, length-take}
use Rattle.ir_tree.specs.declared.operand.Reg.TheVariants.{Ptr}
use Rattle.ir_meaning.specs.Bytes.{read}
use Rattle.ir_meaning.specs.Operate.{Is}
use Rattle.ir_meaning.specs.declared.value.Byte.{Byte}
use Rattle.ir_machine.specs.Bytes.{pointer_at}
use Rattle.ir_machine.specs.Meant.{meant}
use Rattle.ir_machine.specs.declared.mark.ByteMark.{ByteMark}
use Rattle.ir_machine.specs.declared.scalar.Scalar.{Scalar}
use Rattle.ir_machine.specs.Origins.{IsHeld}
use Rattle.ir_machine.specs.declared.outcome.Outcome.TheVariants.{Value as OfValue}
use Rattle.ir_machine.proofs.Origins.{held_in}
use Rattle.ir_machine.proofs.Reading.{pointer_read, pointer_spoilt, pointer_unset}
use Rattle.ir_machine.proofs.Windows.{window_of}
use Rattle.ir_machine.proofs.bytes.Bytes.load_pointer.Goals as goal

pub returns-then-any_unset-clause-value : goal.returns-then-any_unset-clause-value
returns-then-any_unset-clause-value c = λ names.
    sym (ap (λ (bs : List Byte). read Ptr bs)
    (window_of names (pointer_at c.args.self.now) 8 (c.args.place + 8 - c.args.place) c.args.place c.args.self.now.marks.items c.deref.result.now c.deref.ensures.value (omega arith))
    ∙ pointer_unset names (pointer_at c.args.self.now) c.args.place (take (c.args.place + 8 - c.args.place) (drop c.args.place c.deref.result.now)) (sym c.any_unset.ensures ∙ c.if-any_unset.true))

pub returns-then-any_spoilt-clause-value : goal.returns-then-any_spoilt-clause-value
returns-then-any_spoilt-clause-value c = λ names.
    sym (ap (λ (bs : List Byte). read Ptr bs)
    (window_of names (pointer_at c.args.self.now) 8 (c.args.place + 8 - c.args.place) c.args.place c.args.self.now.marks.items c.deref.result.now c.deref.ensures.value (omega arith))
    ∙ pointer_spoilt names (pointer_at c.args.self.now) c.args.place (take (c.args.place + 8 - c.args.place) (drop c.args.place c.deref.result.now)) (sym c.any_unset.ensures ∙ c.if-any_unset.false) (sym c.any_spoilt.ensures ∙ c.if-any_spoilt.true))

some : (xs : List ByteMark) (n o : ℕ) → n ≡ 8 → o + 8 ≤ length xs → 1 ≤ length (take n (drop o xs))
some xs n o e h = omega (arith, e, h, length-drop {A = ByteMark}, length-take {A = ByteMark})

pub returns-clause-value : goal.returns-clause-value
returns-clause-value c = λ names.
    sym (ap (λ (bs : List Byte). read Ptr bs)
    (window_of names (pointer_at c.args.self.now) 8 (c.args.place + 8 - c.args.place) c.args.place c.args.self.now.marks.items c.deref.result.now c.deref.ensures.value (omega arith))
    ∙ pointer_read names (pointer_at c.args.self.now) c.args.place (take (c.args.place + 8 - c.args.place) (drop c.args.place c.deref.result.now))
    (some c.deref.result.now (c.args.place + 8 - c.args.place) c.args.place (omega arith) (omega arith)) (sym c.any_unset.ensures ∙ c.if-any_unset.false) (sym c.any_spoilt.ensures ∙ c.if-any_spoilt.false)
    ∙ ap (λ (v : Scalar). Is (meant names v)) (sym c.pointer_in.ensures))

pub returns-clause-held : goal.returns-clause-held
returns-clause-held c =
    subst (λ (v : Scalar). IsHeld c.args.self.now (OfValue v)) (sym c.pointer_in.ensures)
    (held_in c.args.self.now c.args.place (take (c.args.place + 8 - c.args.place) (drop c.args.place c.deref.result.now)))
