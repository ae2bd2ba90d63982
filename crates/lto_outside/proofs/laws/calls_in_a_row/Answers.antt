use Rattle.lto_outside.specs.ReplayLaws.{replays_more}
use Rattle.lto_outside.proofs.Rows.{no_put}
use Rattle.lto_outside.proofs.laws.calls_in_a_row.Goals as goal

pub returns-clause-compose : goal.returns-clause-compose
returns-clause-compose c = replays_more

pub returns-clause-no_put : goal.returns-clause-no_put
returns-clause-no_put c = no_put
