use Rattle.ir_lex.proofs.Unique.{same_list, not_both, same_fault}
use Rattle.ir_lex.proofs.laws.one_list.Goals as goal

pub returns-clause-same : goal.returns-clause-same
returns-clause-same c = same_list

pub returns-clause-apart : goal.returns-clause-apart
returns-clause-apart c = not_both

pub returns-clause-place : goal.returns-clause-place
returns-clause-place c = same_fault
