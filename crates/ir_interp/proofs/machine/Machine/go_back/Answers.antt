use Rattle.std.proofs.Common.{refl, length, ap, arith}
use Rattle.ir_interp.proofs.Returning.{went_back}
use Rattle.std.proofs.lemmas.List.{length-append}
use Rattle.ir_interp.specs.declared.frame.Frame.{Frame}
use Rattle.ir_interp.proofs.machine.Machine.go_back.Goals as goal

pub returns-in-Some-clause-went : goal.returns-in-Some-clause-went
returns-in-Some-clause-went c = λ names p memory numbers d ds waits valid.
    went_back names p c.args.self.now memory numbers d ds c.args.answer c.resume.new.self c.in-Some.waiting c.pop.new.self.items _ _ c.in-Some.ensures.items refl refl refl refl refl c.resume.ensures.base
    (λ frame room. c.resume.ensures.goes names p c.args.self.now.memory memory d frame room valid) waits

pub returns-in-None-clause-went : goal.returns-in-None-clause-went
returns-in-None-clause-went c = λ names p memory numbers d ds waits valid.
    absurd (omega (arith, c.in-None.ensures.cases.0, c.args.self.now.below.ok, ap length waits.1.1.1.0, length-append {A = Frame}))
