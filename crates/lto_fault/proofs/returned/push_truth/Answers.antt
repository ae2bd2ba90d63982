use Rattle.std.proofs.Common.{Bool, sym, subst}
use Rattle.lto_outside.specs.Seen.{stream_seen}
use Rattle.lto_fault.specs.Pushing.{Pushes}
use Rattle.lto_fault.specs.Returned.{returned_text}
use Rattle.lto_fault.specs.declared.returned.Returned.TheVariants.{Truth}
use Rattle.lto_fault.proofs.returned.push_truth.Goals as goal

pub returns-then-holds-clause-pushed : goal.returns-then-holds-clause-pushed
returns-then-holds-clause-pushed g c =
    subst (λ (b : Bool). Pushes (stream_seen g.N.ByteOut.sent g.N.ByteOut.faults c.args.out.now c.push_all.new.out) (returned_text (Truth b)) c.push_all.result)
    (sym c.if-holds.true) c.push_all.ensures.pushed

pub returns-clause-pushed : goal.returns-clause-pushed
returns-clause-pushed g c =
    subst (λ (b : Bool). Pushes (stream_seen g.N.ByteOut.sent g.N.ByteOut.faults c.args.out.now c.push_all-2.new.out) (returned_text (Truth b)) c.push_all-2.result)
    (sym c.if-holds.false) c.push_all-2.ensures.pushed
