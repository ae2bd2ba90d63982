use Rattle.lto_task.proofs.Numbers.{is_utf8}
use Rattle.lto_task.proofs.splits.number.Goals as goal

pub returns-in-Err : goal.returns-in-Err
returns-in-Err c = λ n small is. c.in-Err.ensures.cases.0 (is_utf8 n c.args.digits.now small is)
