use Rattle.std.proofs.Common.{length}
use Rattle.ir_verify.proofs.instructions.+follow.Given as goal

abbrev pub decreases-follow : goal.decreases-follow
decreases-follow l = length l.indices.now
