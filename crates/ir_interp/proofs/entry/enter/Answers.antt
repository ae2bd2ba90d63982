use Rattle.ir_interp.proofs.entry.enter.Goals as goal

pub returns : goal.returns
returns c = λ names m memory valid. c.pass.ensures names m memory c.in_ok-registers.ensures.unwritten valid
