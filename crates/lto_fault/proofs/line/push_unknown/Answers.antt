use Rattle.std.proofs.Common.{List, ℕ, subst, sym}
use Rattle.lto_outside.specs.Seen.{stream_seen}
use Rattle.lto_fault.specs.Pushing.{Pushes}
use Rattle.lto_fault.proofs.Lines.{undefined_symbol_line}
use Rattle.lto_fault.proofs.line.push_unknown.Goals as goal

pub returns-clause-pushed : goal.returns-clause-pushed
returns-clause-pushed g c = subst (λ (l : List ℕ). Pushes (stream_seen g.N.ByteOut.sent g.N.ByteOut.faults c.args.out.now c.push_named.new.out) l c.push_named.result) (sym (undefined_symbol_line c.args.name.now c.args.file.now)) (rw (sym c.as_slice.ensures) c.push_named.ensures.pushed)
