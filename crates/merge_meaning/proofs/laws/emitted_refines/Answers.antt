use Rattle.merge_meaning.proofs.Emitted.{emitted_refines}
use Rattle.merge_meaning.proofs.laws.emitted_refines.Goals as goal

pub returns : goal.returns
returns c = emitted_refines
