use Rattle.ir_round_trip.proofs.Suffixed.{suffixed}
use Rattle.ir_round_trip.proofs.link_parts.suffixed_names_are_writable.Goals as goal

pub returns : goal.returns
returns c = suffixed
