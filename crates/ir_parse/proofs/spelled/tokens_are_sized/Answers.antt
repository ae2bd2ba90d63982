use Rattle.ir_parse.proofs.Tokens.{whole}
use Rattle.ir_parse.proofs.spelled.tokens_are_sized.Goals as goal

pub returns : goal.returns
returns c = whole
