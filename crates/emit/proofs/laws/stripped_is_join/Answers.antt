use Rattle.emit.proofs.Stripping.{stripped_is_join}
use Rattle.emit.proofs.laws.stripped_is_join.Goals as goal

pub returns : goal.returns
returns c = stripped_is_join
