use Rattle.ir_meaning.proofs.Names.Kept.{kept_all}
use Rattle.ir_meaning.proofs.naming.kept_refines.Goals as goal

pub returns : goal.returns
returns c = kept_all
