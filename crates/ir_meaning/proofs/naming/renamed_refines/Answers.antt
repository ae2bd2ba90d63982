use Rattle.ir_meaning.proofs.Names.Renamed.{renamed_all}
use Rattle.ir_meaning.proofs.naming.renamed_refines.Goals as goal

pub returns : goal.returns
returns c = renamed_all
