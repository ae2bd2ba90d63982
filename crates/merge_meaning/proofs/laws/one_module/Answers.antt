use Rattle.merge_meaning.proofs.OneModule.{one_module, one_module_of_all}
use Rattle.merge_meaning.proofs.laws.one_module.Goals as goal

pub returns-clause-homes : goal.returns-clause-homes
returns-clause-homes c = one_module

pub returns-clause-without_locals : goal.returns-clause-without_locals
returns-clause-without_locals c = one_module_of_all
