use Rattle.ir_meaning.proofs.Numbers.Renumbered as numbers
use Rattle.ir_meaning.proofs.passes.renumbered_better.Goals as goal

pub returns : goal.returns
returns c = numbers.renumbered_better
