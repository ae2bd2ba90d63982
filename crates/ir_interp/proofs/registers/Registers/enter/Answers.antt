use Rattle.ir_interp.proofs.Reading.{same_locals}
use Rattle.ir_interp.proofs.registers.Registers.enter.Goals as goal

pub returns-clause-ok : goal.returns-clause-ok
returns-clause-ok c = λ names m memory locals a k.
    c.put.ensures names m memory locals c.args.from (same_locals names m memory c.args.self.now c.take.new.self locals c.take.ensures.same a) (c.in_ok-take.ensures.taken names m memory locals a k)
