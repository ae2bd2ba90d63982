use Rattle.ir_round_trip.proofs.Calls.{calling_read}
use Rattle.ir_round_trip.proofs.printing_laws.calls_are_read.Goals as goal

pub returns : goal.returns
returns c = calling_read
