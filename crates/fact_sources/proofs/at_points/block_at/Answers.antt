use Rattle.std.proofs.Common.{ℕ, ◌+◌, ap, ◌∙◌}
use Rattle.std.specs.BTreeMap.{get}
use Rattle.std.specs.Ordering.{nat_cmp}
use Rattle.fact_sources.specs.AtPoints.{end_at, lines_at, phis_at}
use Rattle.fact_sources.proofs.Walking.{end_is}
use Rattle.fact_sources.proofs.at_points.block_at.Goals as goal

pub returns : goal.returns
returns c =
    let facts = c.args.facts.now in
    let phis = c.in_ok-phis.ensures ∙ ap (phis_at facts (get nat_cmp c.args.last.now)) c.as_slice.ensures in
    let lines = c.in_ok-lines.ensures ∙ ap (lines_at facts c.args.first) c.as_slice-2.ensures in
    let point = c.in_ok-point.ensures ∙ ap (λ (m : ℕ). c.args.first + m) c.len.ensures in
    let end = c.in_ok-end.ensures ∙ end_is facts c.in_ok-point.point c.args.block.now.end ∙ ap (λ (k : ℕ). end_at facts k c.args.block.now.end) point in
    λ i. record { number = c.args.block.now.number; phis = phis i; lines = lines i; end = end i }
