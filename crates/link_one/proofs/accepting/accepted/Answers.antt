use Rattle.std.proofs.Common.{Err, ap, inr, refl}
use Rattle.ir_tree.specs.declared.failure.Failure.{Failure}
use Rattle.ir_verify.specs.declared.fault.VerifyFault.{VerifyFault}
use Rattle.link_one.proofs.accepting.accepted.Goals as goal

pub returns-in-Err-Fault-verify-clause-refused : goal.returns-in-Err-Fault-verify-clause-refused
returns-in-Err-Fault-verify-clause-refused c = inr (record {
  m = c.in-Ok.parsed.0;
  lines = c.in-Ok.parsed.1;
  reads = c.in-Ok.ensures.found;
  fault = c.in-Err-Fault-verify.fault;
  least = c.in-Err-Fault-verify.ensures.fault c.in-Err-Fault-verify.fault (ap (λ (e : Failure VerifyFault). Err e) c.in-Err-Fault-verify.field-0-is);
  place = refl;
  told = refl;
})
