use Rattle.std.proofs.Common.{List, ◌++◌, ◌+◌, drop, refl, ap, ◌∙◌}
use Rattle.ir_tree.specs.declared.instr.Line.{Line}
use Rattle.fact_sources.specs.AtPoints.{lines_at}
use Rattle.fact_sources.proofs.Stepping.{cut_at, walked}
use Rattle.fact_sources.proofs.Walking.{line_at_pushed}
use Rattle.fact_sources.proofs.at_points.lines_at.Goals as goal

pub loop-line-init : goal.loop-line-init
loop-line-init c = ap (λ (ls : List Line). ls ++ lines_at c.args.facts.now c.args.first c.args.lines.now) c.new-rows.ensures

pub loop-line-preserved : goal.loop-line-preserved
loop-line-preserved c =
    let lines = c.args.lines.now in
    let i = c.loop-line.line-index in
    let line = c.line-item.result in
    line_at_pushed c.args.facts.now c.loop-line.point c.in_ok-next.next line c.in_ok-instr.instr (drop (i + 1) lines) (drop i lines) c.loop-line.rows c.push.new.self
    (cut_at lines i line c.loop-line-test.true c.line-item.is) c.in_ok-next.ensures c.in_ok-instr.ensures c.in_ok-push.ensures.ok
    ∙ c.loop-line.invariant

pub returns : goal.returns
returns c = walked (lines_at c.args.facts.now c.loop-line.point) c.args.lines.now c.loop-line.line-index c.loop-line.rows refl c.loop-line-test.false ∙ c.loop-line.invariant
