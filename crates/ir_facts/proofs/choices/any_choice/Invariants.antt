use Rattle.std.proofs.Common.{◌≡◌, drop}
use Rattle.ir_facts.specs.Askable.{LinesHaveWidths}
use Rattle.ir_facts.specs.Settled.{any_choice}
use Rattle.ir_facts.proofs.choices.any_choice.Given as goal

abbrev pub invariant-loop-line : goal.invariant-loop-line
invariant-loop-line l = record {
  sized : LinesHaveWidths (drop l.line-index l.lines);
  same : any_choice l.lines ≡ any_choice (drop l.line-index l.lines);
}
