use Rattle.merge_meaning.proofs.Sounds.{names_keep_forms, names_keep_soundness}
use Rattle.merge_meaning.proofs.laws.names_keep_soundness.Goals as goal

pub returns-clause-sound : goal.returns-clause-sound
returns-clause-sound c = names_keep_soundness

pub returns-clause-formed : goal.returns-clause-formed
returns-clause-formed c = names_keep_forms
