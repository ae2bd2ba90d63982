use Rattle.ir_round_trip.proofs.Contents.{content_bytes}
use Rattle.ir_round_trip.proofs.limits.contents_are_bytes.Goals as goal

pub returns : goal.returns
returns c = content_bytes
