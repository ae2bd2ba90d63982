use Rattle.ir_round_trip.proofs.Together.{ir_round_trip}
use Rattle.ir_round_trip.proofs.laws.read_modules_are_read.Goals as goal

pub returns : goal.returns
returns c =
    ir_round_trip c.read_is_parsed.ensures c.readable_modules_are_read.ensures c.read_modules_are_within.ensures c.read_modules_are_typed.ensures
