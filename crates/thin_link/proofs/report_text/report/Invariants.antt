use Rattle.thin_link.specs.Rows.{rows}
use Rattle.thin_link.proofs.Parts.{IsWritten}
use Rattle.thin_link.proofs.report_text.report.Given as goal

abbrev pub invariant-loop-number : goal.invariant-loop-number
invariant-loop-number l = IsWritten l.index l.live (rows l.imports) l.files l.number l.out.items
