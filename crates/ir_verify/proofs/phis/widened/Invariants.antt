use Rattle.std.proofs.Common.{◌≡◌, take}
use Rattle.ir_verify.proofs.phis.widened.Given as goal

abbrev pub invariant-loop-place : goal.invariant-loop-place
invariant-loop-place l = l.wide.items ≡ take l.place-index l.row
