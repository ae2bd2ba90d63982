use Rattle.ir_meaning.proofs.Names.Emitted.{emitted_all}
use Rattle.ir_meaning.proofs.naming.emitted_refines.Goals as goal

pub returns : goal.returns
returns c = emitted_all
