use Rattle.std.proofs.Common.{rules, arith}
use Rattle.ir_print.proofs.Written.{wrote_natural}
use Rattle.ir_print.proofs.token.natural.Goals as goal

pub returns : goal.returns
returns c = search (rules, wrote_natural, arith)
