use Rattle.ir_parse_globals.proofs.Closes.{initialiser_close}
use Rattle.ir_parse_globals.proofs.laws.initialisers_are_closed.Goals as goal

pub returns : goal.returns
returns c = initialiser_close
