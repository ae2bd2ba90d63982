use Rattle.ir_lex.proofs.Total as total
use Rattle.ir_lex.proofs.laws.every_text.Goals as goal

pub returns : goal.returns
returns c = total.every_text
