use Rattle.std.proofs.Common.{arith}
use Rattle.lto_task.proofs.Splitting.{lacks_all, split_at_last}
use Rattle.lto_task.proofs.splits.split_last.Goals as goal

pub returns-in-Some : goal.returns-in-Some
returns-in-Some c = split_at_last c.args.at c.args.bytes.now c.in-Some.place c.in-Some.ensures.0 c.in-Some.ensures.1

pub returns-in-None : goal.returns-in-None
returns-in-None c = lacks_all c.args.at c.args.bytes.now (λ k inside p. c.in-None.ensures k (omega arith) inside p)
