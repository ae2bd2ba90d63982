use Rattle.ir_meaning.proofs.Sized.{initial_size}
use Rattle.ir_meaning.proofs.program_laws.initialisers_have_their_size.Goals as goal

pub returns : goal.returns
returns c = initial_size
