use Rattle.ir_edit.proofs.Counting.{text_order_counts}
use Rattle.ir_edit.proofs.laws.text_order_counts.Goals as goal

pub returns : goal.returns
returns c = text_order_counts
