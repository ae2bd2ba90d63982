use Rattle.ir_tree.proofs.NamesAgain as names
use Rattle.ir_tree.proofs.name.quoted_again.Goals as goal

pub returns : goal.returns
returns c = λ name bytes. names.quoted_again name bytes
