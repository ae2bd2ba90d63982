use Rattle.ir_meaning.proofs.Alike.Itself.{same_better}
use Rattle.ir_meaning.proofs.functions.reflexivity.Goals as goal

pub returns : goal.returns
returns c = same_better
