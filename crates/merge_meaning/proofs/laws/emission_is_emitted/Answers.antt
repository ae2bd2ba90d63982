use Rattle.merge_meaning.proofs.Emission.{emission_emitted}
use Rattle.merge_meaning.proofs.Reordered.{any_order}
use Rattle.merge_meaning.proofs.laws.emission_is_emitted.Goals as goal

pub returns-clause-in_order : goal.returns-clause-in_order
returns-clause-in_order c = emission_emitted

pub returns-clause-any_order : goal.returns-clause-any_order
returns-clause-any_order c = any_order
