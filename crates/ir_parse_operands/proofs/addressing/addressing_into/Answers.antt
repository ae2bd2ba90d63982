use Rattle.std.proofs.Common.{arith}
use Rattle.ir_parse_operands.proofs.BehindCommas.{addressing_is}
use Rattle.ir_parse_operands.proofs.addressing.addressing_into.Goals as goal

pub returns : goal.returns
returns c = grind (arith, addressing_is)

pub returns-in_err-inbounds : goal.returns-in_err-inbounds
returns-in_err-inbounds c = grind (arith, addressing_is)

pub returns-in_err-typed : goal.returns-in_err-typed
returns-in_err-typed c = grind (arith, addressing_is)

pub returns-in_err-steps : goal.returns-in_err-steps
returns-in_err-steps c = grind (arith, addressing_is)
