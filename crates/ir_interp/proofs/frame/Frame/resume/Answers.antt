use Rattle.std.proofs.Common.{ℕ, Option, subst}
use Rattle.ir_meaning.specs.Frame.{bind}
use Rattle.ir_interp.specs.Locals.{AreLocals}
use Rattle.ir_interp.specs.Scenes.{answer_meant}
use Rattle.ir_interp.proofs.Opening.{resumed}
use Rattle.ir_interp.proofs.frame.Frame.resume.Goals as goal

pub returns-clause-goes : goal.returns-clause-goes
returns-clause-goes c = λ names p m memory d h room valid.
    resumed names p m memory c.args.self.now d (answer_meant names c.args.answer) c.bind_answer.new.registers h
    (subst (λ (o : Option ℕ). AreLocals names m memory c.bind_answer.new.registers (bind o (answer_meant names c.args.answer) d.locals)) h.awaits (c.bind_answer.ensures names m memory d.locals h.reads room valid))
