use Rattle.merge_meaning.proofs.Emitted.{linked_merged}
use Rattle.merge_meaning.proofs.laws.linked_refines_merged.Goals as goal

pub returns : goal.returns
returns c = linked_merged
