use Rattle.ir_meaning.proofs.Names.Linked.{linked_all}
use Rattle.ir_meaning.proofs.naming.linked_refines.Goals as goal

pub returns : goal.returns
returns c = linked_all
