use Rattle.merge_meaning.proofs.Improved.{improved}
use Rattle.merge_meaning.proofs.laws.improved_is_better.Goals as goal

pub returns : goal.returns
returns c = improved
