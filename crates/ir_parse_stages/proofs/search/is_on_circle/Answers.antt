use Rattle.std.proofs.Common.{rules, ◌<◌, ◌≤◌, length, sym, ap, ◌∙◌, subst, arith}
use Rattle.ir_parse_stages.specs.Searching.{Among, IsPassing}
use Rattle.ir_parse_names.specs.Walks.{next}
use Rattle.ir_parse_stages.proofs.Searched.{pass_start, passed_all, leads_back, leads_nowhere}
use Rattle.ir_parse_stages.proofs.search.is_on_circle.Goals as goal

pub returns-then-branch : goal.returns-then-branch
returns-then-branch c =
    let within : c.each.head < length c.each.search.found.items = search rules in
    let row = c.next-row.ensures ∙ ap (next c.args.graph.now) c.found_at.ensures in
    let a : Among c.args.start c.next-row.result.now = search rules in
    sym (leads_back c.args.graph.now c.args.start c.each.search.found.items c.each.search.seen.items c.each.head c.each.invariant within (subst (λ r. Among c.args.start r) row a))

pub each-preserved : goal.each-preserved
each-preserved c =
    let within : c.each.head < length c.each.search.found.items = subst (λ n. c.each.head < n) (c.len-in-each.ensures ∙ c.each.search.found.ok.0) c.each-test.true in
    let row = c.next-row.ensures ∙ ap (next c.args.graph.now) c.found_at.ensures in
    let begun = pass_start c.args.graph.now c.args.start c.each.search.found.items c.each.search.seen.items c.each.head c.each.invariant within c.next-row.result.now row in
    let ended : IsPassing c.args.graph.now c.args.start c.pass.new.self.found.items c.pass.new.self.seen.items c.each.head c.next-row.result.now (length c.next-row.result.now) = search (begun, rules) in
    passed_all c.args.graph.now c.args.start c.pass.new.self.found.items c.pass.new.self.seen.items c.each.head c.next-row.result.now ended

pub returns : goal.returns
returns c =
    let all : length c.each.search.found.items ≤ c.each.head = search rules in
    sym (leads_nowhere c.args.graph.now c.args.start c.each.search.found.items c.each.search.seen.items c.each.head c.each.invariant all)

pub each-init : goal.each-init
each-init c = c.in_ok-search.ensures c.args.graph.now (sym c.len.ensures)

pub each-smaller : goal.each-smaller
each-smaller c =
    let within : c.each.head < length c.each.search.found.items = search rules in
    omega (arith, within, c.each.invariant.counted)
