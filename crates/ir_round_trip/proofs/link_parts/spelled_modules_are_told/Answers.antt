use Rattle.ir_round_trip.proofs.PartsSpelled.{spelled_told}
use Rattle.ir_round_trip.proofs.link_parts.spelled_modules_are_told.Goals as goal

pub returns : goal.returns
returns c = spelled_told
