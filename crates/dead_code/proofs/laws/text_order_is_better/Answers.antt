use Rattle.dead_code.proofs.Numbers.{text_order_better}
use Rattle.dead_code.proofs.laws.text_order_is_better.Goals as goal

pub returns : goal.returns
returns c = text_order_better
