use Rattle.ir_parse.proofs.Tokens.{front}
use Rattle.ir_parse.proofs.spelled.front_is_sized.Goals as goal

pub returns : goal.returns
returns c = front
