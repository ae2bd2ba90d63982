use Rattle.std.proofs.Common.{length}
use Rattle.ir_parse_names.proofs.address.+offset_in.Given as goal

abbrev pub decreases-offset_in : goal.decreases-offset_in
decreases-offset_in l = length l.indices.now
