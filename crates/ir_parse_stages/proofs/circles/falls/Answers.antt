use Rattle.std.proofs.Common.{◌≡◌, ◌+◌, rules, sym, subst}
use Rattle.ir_parse_stages.specs.Circles.{rank}
use Rattle.ir_parse_stages.specs.Searching.{Among}
use Rattle.ir_parse_stages.proofs.Free.{falls}
use Rattle.ir_parse_stages.proofs.circles.falls.Goals as goal

pub returns-in-Some : goal.returns-in-Some
returns-in-Some c h =
    let one : rank c.args.ranks.now c.args.place ≡ c.in-Some.most + 1 = search rules in
    falls c.args.graph.now c.args.ranks.now c.requires c.args.place c.in-Some.most one (λ q a. c.are_at_most.ensures h q (subst (λ row. Among q row) (sym c.next.ensures) a))
