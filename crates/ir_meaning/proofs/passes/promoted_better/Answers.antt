use Rattle.ir_meaning.proofs.Slots.Promoted.{promoted_is_better}
use Rattle.ir_meaning.proofs.passes.promoted_better.Goals as goal

pub returns : goal.returns
returns c = promoted_is_better
