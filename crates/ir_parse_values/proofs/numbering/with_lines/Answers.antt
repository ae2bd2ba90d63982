use Rattle.std.proofs.Common.{◌+◌, drop, sym, ap, ◌∙◌}
use Rattle.ir_parse_names.specs.Numbering.{with_lines}
use Rattle.ir_parse_names.proofs.Each.{here}
use Rattle.ir_parse_values.proofs.Following.{follows}
use Rattle.ir_parse_values.proofs.numbering.with_lines.Goals as goal

pub each-preserved : goal.each-preserved
each-preserved c =
    sym (ap (with_lines c.each.locals) (here c.args.lines.now c.each.line-index c.line-item.result c.each-test.true c.line-item.is) ∙ follows (λ k. with_lines k (drop (c.each.line-index + 1) c.args.lines.now)) c.in_ok-with_line.ensures)
    ∙ c.each.invariant
