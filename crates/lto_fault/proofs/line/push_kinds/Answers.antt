use Rattle.std.proofs.Common.{List, ℕ, subst, sym}
use Rattle.lto_outside.specs.Seen.{stream_seen}
use Rattle.lto_fault.specs.Pushing.{Pushes}
use Rattle.lto_fault.proofs.Lines.{kinds_line}
use Rattle.lto_fault.proofs.line.push_kinds.Goals as goal

pub returns-clause-pushed : goal.returns-clause-pushed
returns-clause-pushed g c = subst (λ (l : List ℕ). Pushes (stream_seen g.N.ByteOut.sent g.N.ByteOut.faults c.args.out.now c.push_both.new.out) l c.push_both.result) (sym (kinds_line c.args.name.now c.args.function.now c.args.variable.now)) (c.push_both.ensures.pushed)
