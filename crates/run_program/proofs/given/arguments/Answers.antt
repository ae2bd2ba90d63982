use Rattle.std.proofs.Common.{◌∙◌, length, sym, eqb-true}
use Rattle.run_program.proofs.Taking.{not_as_many, takes_all, takes_first, takes_more, takes_none}
use Rattle.run_program.proofs.given.arguments.Goals as goal

pub returns-then-not-are_as_many : goal.returns-then-not-are_as_many
returns-then-not-are_as_many c = not_as_many c.args.params.now c.args.given.now (sym c.are_as_many.ensures ∙ c.if-not-are_as_many.true)

pub loop-place-init : goal.loop-place-init
loop-place-init c = takes_first c.args.params.now c.args.given.now c.new-numbers.result c.new-numbers.ensures

pub returns-in_default : goal.returns-in_default
returns-in_default c =
    takes_none c.args.params.now c.args.given.now c.loop-place.place c.loop-place.numbers
    (eqb-true (length c.args.params.now) (length c.args.given.now) (sym c.are_as_many.ensures ∙ c.if-not-are_as_many.false))
    c.loop-place.invariant c.loop-place-test.true c.in_default.ensures

pub loop-place-preserved : goal.loop-place-preserved
loop-place-preserved c =
    takes_more c.args.params.now c.args.given.now c.loop-place.place c.loop-place.numbers
    (eqb-true (length c.args.params.now) (length c.args.given.now) (sym c.are_as_many.ensures ∙ c.if-not-are_as_many.false))
    c.loop-place.invariant c.loop-place-test.true c.in-Some.number c.push.new.self c.in-Some.ensures c.in_ok-push.ensures.ok

pub returns : goal.returns
returns c =
    takes_all c.args.params.now c.args.given.now c.loop-place.place c.loop-place.numbers
    (eqb-true (length c.args.params.now) (length c.args.given.now) (sym c.are_as_many.ensures ∙ c.if-not-are_as_many.false))
    c.loop-place.invariant c.loop-place-test.false
