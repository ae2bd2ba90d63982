use Rattle.ir_interp.proofs.Telling.{not_over, still_at, told}
use Rattle.ir_interp.proofs.machine.Machine.step.Goals as goal

pub returns-in-Some-clause-ok : goal.returns-in-Some-clause-ok
returns-in-Some-clause-ok c = λ names p next at. told names p c.args.self.now next c.args.choice c.args.given c.in-Some.end c.in-Some.is at

pub returns-in-None-clause-ok : goal.returns-in-None-clause-ok
returns-in-None-clause-ok c = not_over c.args.self.now c.go_on.new.self c.args.choice c.args.given c.go_on.result c.in-None.is c.go_on.ensures.ok

pub returns-in-None-clause-err : goal.returns-in-None-clause-err
returns-in-None-clause-err c = still_at c.args.self.now c.go_on.new.self c.go_on.result c.in-None.is c.go_on.ensures.err
