use Rattle.ir_round_trip.proofs.OneText.{printed_once}
use Rattle.ir_round_trip.proofs.laws.modules_with_one_text_are_one.Goals as goal

pub returns : goal.returns
returns c = printed_once
