use Rattle.std.proofs.Common.{arith}
use Rattle.ir_parse_operands.proofs.BehindCommas.{switching_is}
use Rattle.ir_parse_operands.proofs.terminators.switching_into.Goals as goal

pub returns : goal.returns
returns c = grind (arith, switching_is)

pub returns-in_err-width : goal.returns-in_err-width
returns-in_err-width c = grind (arith, switching_is)

pub returns-in_err-value : goal.returns-in_err-value
returns-in_err-value c = grind (arith, switching_is)

pub returns-in_err-default : goal.returns-in_err-default
returns-in_err-default c = grind (arith, switching_is)

pub returns-in_err-cases : goal.returns-in_err-cases
returns-in_err-cases c = grind (arith, switching_is)
