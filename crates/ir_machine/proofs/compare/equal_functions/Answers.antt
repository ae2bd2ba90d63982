use Rattle.ir_machine.proofs.Comparing.{one_function}
use Rattle.ir_machine.proofs.compare.equal_functions.Goals as goal

pub returns-then-f-g : goal.returns-then-f-g
returns-then-f-g c = λ names memory distinct f g. one_function names memory c.args.f c.args.g c.args.i c.args.j c.if-f-g.true
