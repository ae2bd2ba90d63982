use Rattle.std.proofs.Common.{rules, arith}
use Rattle.ir_print.proofs.Written.{wrote_signed}
use Rattle.ir_print.proofs.token.signed.Goals as goal

pub returns : goal.returns
returns c = search (rules, wrote_signed, arith)
