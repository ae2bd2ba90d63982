use Rattle.std.proofs.Common.{◌∙◌, ℕ, List, sym, subst}
use Rattle.lto_outside.specs.Seen.{stream_seen}
use Rattle.lto_fault.specs.Pushing.{Pushes}
use Rattle.lto_fault.proofs.Lines.{refused_line}
use Rattle.lto_fault.proofs.line.push_refused.Goals as goal

pub returns-clause-pushed : goal.returns-clause-pushed
returns-clause-pushed g c =
    subst (λ (l : List ℕ). Pushes (stream_seen g.N.ByteOut.sent g.N.ByteOut.faults c.args.out.now c.push_eight.new.out) l c.push_eight.result)
    (sym (refused_line c.args.file.now c.args.line c.args.kind.now))
    (rw (sym c.as_slice.ensures, sym c.kind_words.ensures, sym c.kind_word.ensures, sym (c.as_bytes-number.ensures.value ∙ c.format.ensures.text)) c.push_eight.ensures.pushed)
