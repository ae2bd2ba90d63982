use Rattle.ir_round_trip.proofs.PartsSound.{item_readable}
use Rattle.ir_round_trip.proofs.parts.sound_items_are_read.Goals as goal

pub returns : goal.returns
returns c = item_readable
