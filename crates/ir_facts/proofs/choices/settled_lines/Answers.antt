use Rattle.std.proofs.Common.{map, refl, subst, ◌∙◌}
use Rattle.ir_facts.specs.Askable.{LinesHaveWidths}
use Rattle.ir_facts.specs.Settled.{settled_line}
use Rattle.ir_edit.proofs.Stepping.{all_made}
use Rattle.fact_sources.proofs.Stepping.{cut_at, walked}
use Rattle.ir_facts.proofs.choices.settled_lines.Goals as goal

pub settled_instr-requires : goal.settled_instr-requires
settled_instr-requires c = record {
  sized = (subst LinesHaveWidths (cut_at c.args.lines.now c.loop-line.line-index c.line-item.result c.loop-line-test.true c.line-item.is) c.loop-line.invariant.sized).0;
}

pub loop-line-preserved : goal.loop-line-preserved
loop-line-preserved c =
    let line = c.line-item.result in
    record {
      sized = (subst LinesHaveWidths (cut_at c.args.lines.now c.loop-line.line-index line c.loop-line-test.true c.line-item.is) c.loop-line.invariant.sized).1;
      rows =
          all_made settled_line c.args.lines.now c.loop-line.line-index line (record { local = line.local; instr = c.in_ok-instr.instr }) c.loop-line.rows c.push.new.self c.loop-line-test.true
          c.line-item.is (λ i. record { local = line.local; instr = c.in_ok-instr.ensures i }) c.in_ok-push.ensures.ok
          ∙ c.loop-line.invariant.rows;
    }

pub returns : goal.returns
returns c = walked (map settled_line) c.args.lines.now c.loop-line.line-index c.loop-line.rows refl c.loop-line-test.false ∙ c.loop-line.invariant.rows
