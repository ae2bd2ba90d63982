use Rattle.std.proofs.Common.{ℕ, ◌+◌, Ok, drop, sym, ap, ◌∙◌}
use Rattle.std.proofs.lemmas.List.{drop_all}
use Rattle.ir_parse_names.specs.Bodies.{behind_lines}
use Rattle.ir_parse_names.proofs.Each.{here}
use Rattle.ir_parse_values.proofs.Bodies.{or_else}
use Rattle.ir_parse_values.proofs.block.behind_lines.Goals as goal

pub each-preserved : goal.each-preserved
each-preserved c =
    sym (ap (behind_lines c.each.next) (here c.args.lines.now c.each.line-index c.line-item.result c.each-test.true c.line-item.is)
    ∙ ap (λ (n : ℕ). behind_lines n (drop (c.each.line-index + 1) c.args.lines.now)) (ap (or_else c.each.next) c.in_ok-next.ensures))
    ∙ c.each.invariant

pub returns : goal.returns
returns c = ap (λ (n : ℕ). Ok n) (sym c.each.invariant ∙ ap (behind_lines c.each.next) (drop_all c.each.line-index c.args.lines.now c.each-test.false))
