use Rattle.ir_round_trip.proofs.ReadWithin.{read_within}
use Rattle.ir_round_trip.proofs.laws.read_modules_are_within.Goals as goal

pub returns : goal.returns
returns c = read_within c.contents_are_bytes.ensures c.tokens_are_cut.ensures c.items_are_within.ensures
