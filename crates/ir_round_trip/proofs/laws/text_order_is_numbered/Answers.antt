use Rattle.ir_round_trip.proofs.InOrder.{text_order_is_numbered}
use Rattle.ir_round_trip.proofs.laws.text_order_is_numbered.Goals as goal

pub returns : goal.returns
returns c = text_order_is_numbered c.text_order_counts.ensures
