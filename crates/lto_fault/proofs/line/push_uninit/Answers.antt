use Rattle.std.proofs.Common.{List, ℕ, subst, sym}
use Rattle.lto_outside.specs.Seen.{stream_seen}
use Rattle.lto_fault.specs.Pushing.{Pushes}
use Rattle.lto_fault.proofs.Lines.{uninit_line}
use Rattle.lto_fault.proofs.line.push_uninit.Goals as goal

pub returns-clause-pushed : goal.returns-clause-pushed
returns-clause-pushed g c = subst (λ (l : List ℕ). Pushes (stream_seen g.N.ByteOut.sent g.N.ByteOut.faults c.args.out.now c.push_place.new.out) l c.push_place.result) (sym (uninit_line c.args.function.now c.args.file.now c.args.instruction)) (c.push_place.ensures.pushed)
