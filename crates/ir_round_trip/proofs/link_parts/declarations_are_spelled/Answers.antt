use Rattle.ir_round_trip.proofs.DeclarationsSpelled.{declarations_spelled}
use Rattle.ir_round_trip.proofs.link_parts.declarations_are_spelled.Goals as goal

pub returns : goal.returns
returns c = declarations_spelled
