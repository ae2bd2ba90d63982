use Rattle.ir_lex.proofs.Spelled as spelling
use Rattle.ir_lex.proofs.laws.written.Goals as goal

pub returns : goal.returns
returns c = spelling.written
