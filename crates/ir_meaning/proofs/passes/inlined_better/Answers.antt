use Rattle.ir_meaning.proofs.Inlining.Inlined.{inlined_is_better}
use Rattle.ir_meaning.proofs.passes.inlined_better.Goals as goal

pub returns : goal.returns
returns c = inlined_is_better
