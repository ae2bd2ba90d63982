use Rattle.ir_round_trip.proofs.PartsOperands.{operand_read, argument_read}
use Rattle.ir_round_trip.proofs.parts.operands_are_read.Goals as goal

pub returns-clause-operand : goal.returns-clause-operand
returns-clause-operand c = operand_read

pub returns-clause-argument : goal.returns-clause-argument
returns-clause-argument c = argument_read
