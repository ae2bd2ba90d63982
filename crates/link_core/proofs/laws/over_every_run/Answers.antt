use Rattle.link_core.specs.Machine.{start}
use Rattle.link_core.proofs.Runs.{starts_good, run_keeps, all_there}
use Rattle.link_core.proofs.laws.over_every_run.Goals as goal

pub returns-clause-every_run : goal.returns-clause-every_run
returns-clause-every_run g c links disk events honest runs =
    run_keeps g.M.MadeOf.made_of (start links disk) events (starts_good g.M.MadeOf.made_of links disk honest) runs

pub returns-clause-start : goal.returns-clause-start
returns-clause-start g c = starts_good g.M.MadeOf.made_of

pub returns-clause-kept : goal.returns-clause-kept
returns-clause-kept g c = run_keeps g.M.MadeOf.made_of

pub returns-clause-all_there : goal.returns-clause-all_there
returns-clause-all_there g c = all_there g.M.MadeOf.made_of
