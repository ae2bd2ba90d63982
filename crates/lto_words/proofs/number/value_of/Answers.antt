use Rattle.lto_words.proofs.Numbers.{too_wide}
use Rattle.lto_words.proofs.number.value_of.Goals as goal

pub returns-in-Err : goal.returns-in-Err
returns-in-Err c = too_wide c.args.text.now c.in-Err.ensures.value.0 c.requires
