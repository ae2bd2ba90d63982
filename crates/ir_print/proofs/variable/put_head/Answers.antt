use Rattle.ir_print.proofs.variable.put_head.Goals as goal

pub returns-in_ok-word-in-Zeros-clause-wrote : goal.returns-in_ok-word-in-Zeros-clause-wrote
returns-in_ok-word-in-Zeros-clause-wrote c = rw c.in-Zeros.is c.in_ok-word-in-Zeros.ensures
