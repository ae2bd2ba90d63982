use Rattle.lto_task.proofs.Numbers.{no_number, number_one}
use Rattle.lto_task.proofs.splits.split_number.Goals as goal

pub returns-in_default : goal.returns-in_default
returns-in_default c = λ front n small is. no_number c.args.bytes.now front n c.in_default.ensures is

pub returns-in-None : goal.returns-in-None
returns-in-None c = λ front n small is.
    c.in-None.ensures n small (number_one c.args.bytes.now c.in-Some.front.now c.in-Some.digits.now front n c.in-Some.ensures.0 c.in-Some.ensures.1 small is).1
