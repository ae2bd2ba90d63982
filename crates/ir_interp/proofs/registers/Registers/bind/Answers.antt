use Rattle.std.proofs.Common.{Option, Some, sym, refl, subst}
use Rattle.ir_meaning.specs.Frame.{bind}
use Rattle.ir_machine.specs.Meant.{meant}
use Rattle.ir_interp.specs.Locals.{AreLocals}
use Rattle.ir_interp.proofs.Reading.{bound_locals}
use Rattle.ir_interp.proofs.registers.Registers.bind.Goals as goal

pub returns-in-Some : goal.returns-in-Some
returns-in-Some c = λ names m memory locals a valid.
    subst (λ (o : Option _). AreLocals names m memory c.write.new.self (bind o (Some (meant names c.args.value)) locals)) (sym c.in-Some.is)
    (bound_locals names m memory c.args.self.now c.write.new.self locals c.in-Some.register c.args.value (meant names c.args.value) c.write.ensures.written refl valid a)

pub returns-in_default : goal.returns-in_default
returns-in_default c = λ names m memory locals a valid.
    subst (λ (o : Option _). AreLocals names m memory c.args.self.now (bind o (Some (meant names c.args.value)) locals)) (sym c.in_default.is) a
