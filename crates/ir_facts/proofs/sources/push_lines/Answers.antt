use Rattle.std.proofs.Common.{◌∙◌, refl, subst}
use Rattle.ir_tree.specs.declared.instr.Line.{Line}
use Rattle.ir_facts.specs.Askable.{LinesHaveWidths}
use Rattle.ir_facts.specs.Candidates.{line_candidates, result_candidate}
use Rattle.ir_edit.proofs.Stepping.{given_more}
use Rattle.fact_sources.proofs.Stepping.{cut_at, walked}
use Rattle.ir_facts.proofs.sources.push_lines.Goals as goal

pub push_line-requires : goal.push_line-requires
push_line-requires c = record {
  sized = (subst LinesHaveWidths (cut_at c.args.lines.now c.loop-line.line-index c.line-item.result c.loop-line-test.true c.line-item.is) c.loop-line.invariant.sized).0;
}

pub loop-line-preserved : goal.loop-line-preserved
loop-line-preserved c = record {
  sized = (subst LinesHaveWidths (cut_at c.args.lines.now c.loop-line.line-index c.line-item.result c.loop-line-test.true c.line-item.is) c.loop-line.invariant.sized).1;
  found =
      given_more (λ (l : Line). result_candidate l.local l.instr) line_candidates (λ l ls. refl) c.args.lines.now c.loop-line.line-index c.line-item.result c.loop-line.found.items
      c.push_line.new.found.items c.loop-line-test.true c.line-item.is c.in_ok-push_line.ensures
      ∙ c.loop-line.invariant.found;
}

pub returns : goal.returns
returns c = walked line_candidates c.args.lines.now c.loop-line.line-index c.loop-line.found.items refl c.loop-line-test.false ∙ c.loop-line.invariant.found
