use Rattle.ir_round_trip.proofs.PartsSpelled.{read_spelled}
use Rattle.ir_round_trip.proofs.link_parts.read_values_are_spelled.Goals as goal

pub returns : goal.returns
returns c = read_spelled c.read_modules_are_within.ensures c.read_modules_are_numbered.ensures
