use Rattle.ir_round_trip.proofs.Together.{verified_again}
use Rattle.ir_round_trip.proofs.laws.verified_modules_are_read.Goals as goal

pub returns : goal.returns
returns c = verified_again c.readable_modules_are_read.ensures
