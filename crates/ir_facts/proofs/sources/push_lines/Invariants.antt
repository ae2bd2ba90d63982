use Rattle.std.proofs.Common.{◌≡◌, ◌++◌, drop}
use Rattle.ir_facts.specs.Askable.{LinesHaveWidths}
use Rattle.ir_facts.specs.Candidates.{line_candidates}
use Rattle.ir_facts.proofs.sources.push_lines.Given as goal

abbrev pub invariant-loop-line : goal.invariant-loop-line
invariant-loop-line l = record {
  sized : LinesHaveWidths (drop l.line-index l.lines);
  found : l.found.items ++ line_candidates (drop l.line-index l.lines) ≡ l.initial.found.items ++ line_candidates l.lines;
}
