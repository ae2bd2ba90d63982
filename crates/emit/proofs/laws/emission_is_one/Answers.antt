use Rattle.emit.proofs.Members.{comes_from}
use Rattle.emit.proofs.One.{is_one}
use Rattle.emit.proofs.laws.emission_is_one.Goals as goal

pub returns : goal.returns
returns c = record { one = is_one; from = comes_from }
