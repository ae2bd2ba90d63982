use Rattle.std.proofs.Common.{ℕ, List, sym, subst}
use Rattle.lto_outside.specs.Seen.{stream_seen}
use Rattle.lto_fault.specs.Pushing.{Pushes}
use Rattle.lto_fault.proofs.Lines.{targets_line}
use Rattle.lto_fault.proofs.line.push_targets.Goals as goal

pub returns-clause-pushed : goal.returns-clause-pushed
returns-clause-pushed g c =
    subst (λ (l : List ℕ). Pushes (stream_seen g.N.ByteOut.sent g.N.ByteOut.faults c.args.out.now c.push_eight.new.out) l c.push_eight.result)
    (sym (targets_line c.args.target c.args.first.now c.args.second.now))
    (rw (sym c.target_words.ensures, sym c.as_slice.ensures, sym c.as_slice-2.ensures) c.push_eight.ensures.pushed)
