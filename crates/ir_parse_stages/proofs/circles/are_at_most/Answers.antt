use Rattle.std.proofs.Common.{rules, ◌≤◌, length, subst, arith}
use Rattle.ir_parse_stages.specs.Circles.{rank}
use Rattle.ir_parse_stages.proofs.Searched.{among_place}
use Rattle.ir_parse_stages.proofs.circles.are_at_most.Goals as goal

pub returns : goal.returns
returns c h q a =
    let all : length c.args.row.now ≤ c.each.place-index = search rules in
    let there = among_place c.args.row.now q a in
    subst (λ r. rank c.args.ranks.now r ≤ c.args.most) there.2 (c.each.invariant there.0 (omega (arith, there.1, all)))
