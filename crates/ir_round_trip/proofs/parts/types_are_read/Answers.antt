use Rattle.ir_round_trip.proofs.Types.{integer_read, register_read, scalar_read, result_read}
use Rattle.ir_round_trip.proofs.parts.types_are_read.Goals as goal

pub returns-clause-integer : goal.returns-clause-integer
returns-clause-integer c = integer_read

pub returns-clause-register : goal.returns-clause-register
returns-clause-register c = register_read

pub returns-clause-scalar : goal.returns-clause-scalar
returns-clause-scalar c = scalar_read

pub returns-clause-result : goal.returns-clause-result
returns-clause-result c = result_read
