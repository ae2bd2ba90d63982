use Rattle.ir_parse.proofs.Written.{arguments, operands}
use Rattle.ir_parse.proofs.spelled.operands_are_written.Goals as goal

pub returns-clause-operands : goal.returns-clause-operands
returns-clause-operands c = operands

pub returns-clause-arguments : goal.returns-clause-arguments
returns-clause-arguments c = arguments
