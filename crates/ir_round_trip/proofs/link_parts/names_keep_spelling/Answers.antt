use Rattle.ir_round_trip.proofs.Renamed.{names_keep_spelling}
use Rattle.ir_round_trip.proofs.link_parts.names_keep_spelling.Goals as goal

pub returns : goal.returns
returns c = names_keep_spelling
