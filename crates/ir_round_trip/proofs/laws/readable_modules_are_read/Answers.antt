use Rattle.ir_round_trip.proofs.Modules.{readable_read}
use Rattle.ir_round_trip.proofs.laws.readable_modules_are_read.Goals as goal

pub returns : goal.returns
returns c = readable_read c.modules_are_read.ensures.text
