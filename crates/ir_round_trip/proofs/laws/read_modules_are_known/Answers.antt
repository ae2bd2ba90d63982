use Rattle.ir_round_trip.proofs.Together.{is_known}
use Rattle.ir_round_trip.proofs.laws.read_modules_are_known.Goals as goal

pub returns : goal.returns
returns c = is_known c.read_is_parsed.ensures
