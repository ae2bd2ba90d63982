use Rattle.ir_round_trip.proofs.PartsSpelled.{parts_are_spelled}
use Rattle.ir_round_trip.proofs.link_parts.parts_are_spelled.Goals as goal

pub returns : goal.returns
returns c = parts_are_spelled c.read_values_are_spelled.ensures c.names_keep_spelling.ensures c.suffixed_names_are_writable.ensures
