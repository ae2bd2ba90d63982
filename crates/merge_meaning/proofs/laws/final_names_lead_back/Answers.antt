use Rattle.merge_meaning.proofs.Emitted.{back_final}
use Rattle.merge_meaning.proofs.laws.final_names_lead_back.Goals as goal

pub returns : goal.returns
returns c = back_final
