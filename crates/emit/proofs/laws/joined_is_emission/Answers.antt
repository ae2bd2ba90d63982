use Rattle.emit.proofs.Joined.{is_emission}
use Rattle.emit.proofs.laws.joined_is_emission.Goals as goal

pub returns : goal.returns
returns c = is_emission
