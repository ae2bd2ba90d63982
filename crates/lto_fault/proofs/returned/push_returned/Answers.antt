use Rattle.std.proofs.Common.{◌≡◌, ℕ, Bool, List, ap, sym, subst}
use Rattle.lto_outside.specs.Seen.{StreamSeen, stream_seen}
use Rattle.lto_fault.specs.Pushing.{Pushes}
use Rattle.lto_fault.specs.Returned.{returned_text}
use Rattle.lto_fault.specs.declared.returned.Returned.{Returned}
use Rattle.lto_fault.proofs.returned.push_returned.Goals as goal

said : (stream : StreamSeen) (whole : Bool) (returned other : Returned) → returned ≡ other → Pushes stream (returned_text other) whole → Pushes stream (returned_text returned) whole
said stream whole returned other is pushed = subst (λ (l : List ℕ). Pushes stream l whole) (sym (ap returned_text is)) pushed

pub returns-in-Nothing-clause-pushed : goal.returns-in-Nothing-clause-pushed
returns-in-Nothing-clause-pushed g c = said (stream_seen g.N.ByteOut.sent g.N.ByteOut.faults c.args.out.now c.push_all.new.out) c.push_all.result _ _ c.in-Nothing.is c.push_all.ensures.pushed

pub returns-in-Truth-clause-pushed : goal.returns-in-Truth-clause-pushed
returns-in-Truth-clause-pushed g c = said (stream_seen g.N.ByteOut.sent g.N.ByteOut.faults c.args.out.now c.push_truth.new.out) c.push_truth.result _ _ c.in-Truth.is c.push_truth.ensures.pushed

pub returns-in-Number-clause-pushed : goal.returns-in-Number-clause-pushed
returns-in-Number-clause-pushed g c = said (stream_seen g.N.ByteOut.sent g.N.ByteOut.faults c.args.out.now c.push_number.new.out) c.push_number.result _ _ c.in-Number.is c.push_number.ensures.pushed

pub returns-in-Pointer-clause-pushed : goal.returns-in-Pointer-clause-pushed
returns-in-Pointer-clause-pushed g c = said (stream_seen g.N.ByteOut.sent g.N.ByteOut.faults c.args.out.now c.push_all-in-Pointer.new.out) c.push_all-in-Pointer.result _ _ c.in-Pointer.is c.push_all-in-Pointer.ensures.pushed

pub returns-in-Poison-clause-pushed : goal.returns-in-Poison-clause-pushed
returns-in-Poison-clause-pushed g c = said (stream_seen g.N.ByteOut.sent g.N.ByteOut.faults c.args.out.now c.push_all-in-Poison.new.out) c.push_all-in-Poison.result _ _ c.in-Poison.is c.push_all-in-Poison.ensures.pushed
