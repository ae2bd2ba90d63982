use Rattle.std.proofs.Common.{subst, arith, true≢false}
use Rattle.ir_parse_stages.specs.Searching.{IsPassing}
use Rattle.ir_parse_stages.proofs.Runs.{same_value}
use Rattle.std.proofs.Common.{rules, ◌≡◌, ◌<◌, ℕ, length, refl, nat_eq, false}
use Rattle.ir_parse_stages.specs.Searching.{at}
use Rattle.ir_parse_stages.proofs.Searched.{visit, among_is, other_place}
use Rattle.ir_parse_stages.proofs.search.Search.pass.Goals as goal

pub returns-then-place-start-clause-back : goal.returns-then-place-start-clause-back
returns-then-place-start-clause-back c h =
    let lt : c.each.place-index < length c.args.row.now = search rules in
    let is : c.args.start ≡ at c.args.row.now c.each.place-index = search rules in
    among_is c.args.row.now c.each.place-index c.args.start lt is

pub each-preserved : goal.each-preserved
each-preserved c graph head s =
    let k : ℕ = c.each.place-index in
    let p : ℕ = at c.args.row.now k in
    let lt : k < length c.args.row.now = search rules in
    let other : nat_eq p c.args.start ≡ false = search rules in
    visit graph c.args.start c.each.self.found.items c.each.self.seen.items head p c.args.row.now k c.visit.new.self.found.items c.visit.new.self.seen.items (c.each.invariant graph head s) lt refl (other_place p c.args.start other) c.in_ok-visit.ensures.found c.in_ok-visit.ensures.seen

pub returns-then-place-start-clause-on : goal.returns-then-place-start-clause-on
returns-then-place-start-clause-on c e = absurd (true≢false (same_value _ _ e))

pub returns-clause-on : goal.returns-clause-on
returns-clause-on c e graph head s = subst (λ n. IsPassing graph c.args.start c.each.self.found.items c.each.self.seen.items head c.args.row.now n) (omega (arith, c.each-test.false, c.each.auto.place-index-end)) (c.each.invariant graph head s)
