use Rattle.std.proofs.Common.{◌≡◌, ◌++◌, drop, map}
use Rattle.ir_facts.specs.Askable.{LinesHaveWidths}
use Rattle.ir_facts.specs.Settled.{settled_line}
use Rattle.ir_facts.proofs.choices.settled_lines.Given as goal

abbrev pub invariant-loop-line : goal.invariant-loop-line
invariant-loop-line l = record {
  sized : LinesHaveWidths (drop l.line-index l.lines);
  rows : l.rows ++ map settled_line (drop l.line-index l.lines) ≡ map settled_line l.lines;
}
