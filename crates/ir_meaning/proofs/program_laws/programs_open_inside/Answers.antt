use Rattle.ir_meaning.proofs.Inside.{programs_inside}
use Rattle.ir_meaning.proofs.program_laws.programs_open_inside.Goals as goal

pub returns : goal.returns
returns c = programs_inside
