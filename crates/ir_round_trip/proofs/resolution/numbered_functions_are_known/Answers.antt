use Rattle.ir_round_trip.proofs.PrintedInOrder.{text_order_numbered}
use Rattle.ir_round_trip.proofs.Sound.{function_known}
use Rattle.ir_round_trip.proofs.resolution.numbered_functions_are_known.Goals as goal

pub returns-clause-order : goal.returns-clause-order
returns-clause-order c = text_order_numbered c.text_order_counts.ensures

pub returns-clause-known : goal.returns-clause-known
returns-clause-known c = function_known
