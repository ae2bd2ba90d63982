use Rattle.std.proofs.Common.{◌+◌, ◌++◌, List, drop, sym, ap, ◌∙◌}
use Rattle.ir_facts.proofs.Walking.{line_pushed}
use Rattle.fact_sources.proofs.Stepping.{cut_at}
use Rattle.std.proofs.lemmas.List.{drop_all}
use Rattle.ir_tree.specs.declared.instr.Line.{Line}
use Rattle.ir_facts.specs.Points.{line_points}
use Rattle.ir_facts.proofs.points.push_line_points.Goals as goal

pub loop-line-preserved : goal.loop-line-preserved
loop-line-preserved c =
    let lines = c.args.lines.now in
    let i = c.loop-line.line-index in
    let line = c.line-item.result in
    line_pushed c.args.local c.args.value.now line (drop (i + 1) lines) (drop i lines) c.loop-line.held c.held_behind-held.result c.loop-line.marks.items c.push.new.self.items
    (cut_at lines i line c.loop-line-test.true c.line-item.is) c.held_behind-held.ensures c.in_ok-push.ensures.items
    ∙ c.loop-line.invariant

pub returns : goal.returns
returns c =
    c.in_ok-push-2.ensures.items
    ∙ ap (λ (ls : List Line). c.loop-line.marks.items ++ line_points c.args.local c.args.value.now ls c.loop-line.held) (sym (drop_all c.loop-line.line-index c.args.lines.now c.loop-line-test.false))
    ∙ c.loop-line.invariant
