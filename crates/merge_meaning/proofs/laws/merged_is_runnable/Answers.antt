use Rattle.merge_meaning.proofs.Improved.{improved_once}
use Rattle.merge_meaning.proofs.Once.{merged_once}
use Rattle.merge_meaning.proofs.Runs.{merged_runs}
use Rattle.merge_meaning.proofs.laws.merged_is_runnable.Goals as goal

pub returns-clause-once : goal.returns-clause-once
returns-clause-once c = merged_once

pub returns-clause-improved : goal.returns-clause-improved
returns-clause-improved c = improved_once

pub returns-clause-runnable : goal.returns-clause-runnable
returns-clause-runnable c = merged_runs
