use Rattle.std.proofs.Common.{arith}
use Rattle.lto_outside.specs.Cause.{Rose}
use Rattle.lto_fault.proofs.Pushing.{stopped}
use Rattle.lto_fault.proofs.parts.push_all.Goals as goal

pub returns-in-Err-clause-pushed : goal.returns-in-Err-clause-pushed
returns-in-Err-clause-pushed g c =
    let rose : Rose (g.N.ByteOut.faults c.args.out.now) (g.N.ByteOut.faults c.push.new.self) = omega (arith, c.in-Err.ensures.cause, c.loop-byte.invariant.later) in
    stopped _ _ _ _ _ _ _ c.loop-byte.invariant.sent c.in-Err.ensures.same rose
