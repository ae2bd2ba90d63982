use Rattle.ir_round_trip.proofs.AnewAgain.{anew_again}
use Rattle.ir_round_trip.proofs.laws.modules_numbered_anew_are_read.Goals as goal

pub returns : goal.returns
returns c = anew_again c.text_order_is_sound.ensures c.text_order_is_numbered.ensures c.verified_modules_are_read.ensures
