use Rattle.ir_lex.proofs.Order as order
use Rattle.ir_lex.proofs.laws.slices.Goals as goal

pub returns-clause-order : goal.returns-clause-order
returns-clause-order c = order.slices

pub returns-clause-there : goal.returns-clause-there
returns-clause-there c = order.line_there
