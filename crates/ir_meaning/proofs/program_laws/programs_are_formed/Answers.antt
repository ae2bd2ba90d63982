use Rattle.ir_meaning.proofs.Numbered.{programs_formed}
use Rattle.ir_meaning.proofs.program_laws.programs_are_formed.Goals as goal

pub returns : goal.returns
returns c = programs_formed
