use Rattle.ir_meaning.proofs.WordsAgreeing.{agreeing}
use Rattle.ir_meaning.proofs.word_laws.operations_agree.Goals as goal

pub returns : goal.returns
returns c = agreeing
