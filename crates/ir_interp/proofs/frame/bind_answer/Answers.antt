use Rattle.std.proofs.Common.{ℕ, Option, Some, sym, subst, refl, arith}
use Rattle.ir_meaning.specs.Frame.{bind}
use Rattle.ir_machine.specs.Meant.{meant}
use Rattle.ir_machine.specs.declared.scalar.Scalar.{Scalar}
use Rattle.ir_interp.specs.Locals.{AreLocals}
use Rattle.ir_interp.specs.Ran.{HasRoom}
use Rattle.ir_interp.specs.Scenes.{IsValidAnswer, answer_meant}
use Rattle.ir_interp.proofs.Reading.{bound_locals}
use Rattle.ir_interp.proofs.frame.bind_answer.Goals as goal

pub returns-in_default : goal.returns-in_default
returns-in_default c = λ names m memory locals a room valid.
    subst (λ (o : Option ℕ). AreLocals names m memory c.args.registers.now (bind o (answer_meant names c.args.answer) locals)) (sym c.in_default.is) a

pub returns-in_default-answer : goal.returns-in_default-answer
returns-in_default-answer c = λ names m memory locals a room valid.
    subst (λ (o : Option ℕ). AreLocals names m memory c.args.registers.now (bind o (answer_meant names c.args.answer) locals)) (sym c.in-Some.is)
    (subst (λ (v : Option Scalar). AreLocals names m memory c.args.registers.now (bind (Some c.in-Some.register) (answer_meant names v) locals)) (sym c.in_default-answer.is) a)

pub returns-else-register-len : goal.returns-else-register-len
returns-else-register-len c = λ names m memory locals a room valid.
    let within = subst (HasRoom c.args.registers.now) c.in-Some.is room in
    absurd (omega (arith, within, c.if-register-len.false, c.len.ensures, c.args.registers.now.cells.ok))

pub returns-then-register-len : goal.returns-then-register-len
returns-then-register-len c = λ names m memory locals a room valid.
    subst (λ (o : Option ℕ). AreLocals names m memory c.write.new.self (bind o (answer_meant names c.args.answer) locals)) (sym c.in-Some.is)
    (subst (λ (v : Option Scalar). AreLocals names m memory c.write.new.self (bind (Some c.in-Some.register) (answer_meant names v) locals)) (sym c.in-Some-answer.is)
    (bound_locals names m memory c.args.registers.now c.write.new.self locals c.in-Some.register c.in-Some-answer.value (meant names c.in-Some-answer.value) c.write.ensures.written refl
    (subst (IsValidAnswer names m memory) c.in-Some-answer.is valid) a))
