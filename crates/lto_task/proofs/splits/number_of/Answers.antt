use Rattle.std.proofs.Common.{◌∙◌, sym}
use Rattle.std.proofs.lemmas.Bool.{false≢true}
use Rattle.lto_task.proofs.Numbers.{parsed_one, parsed_so}
use Rattle.lto_task.proofs.splits.number_of.Goals as goal

pub returns-else-is_decimal : goal.returns-else-is_decimal
returns-else-is_decimal c = λ n small is.
    false≢true (sym c.if-is_decimal.false ∙ c.is_decimal.ensures.1 (parsed_one n c.in-Ok.number c.args.text.now c.parse.result small is c.parse.ensures.value.0 c.in-Ok.is))

pub returns-in-Err : goal.returns-in-Err
returns-in-Err c = λ n small is. parsed_so n c.args.text.now c.parse.result _ small is c.parse.ensures.value.0 c.in-Err.is
