use Rattle.std.proofs.Common.{◌≡◌, true, false, get_or, arith, sym, ◌∙◌, rules}
use Rattle.std.specs.Prelude.{nat_eq}
use Rattle.std.specs.HashSet as set
use Rattle.std.proofs.lemmas.Grind.{common_steps}
use Rattle.ir_tree.specs.declared.block.Case.{Case}
use Rattle.ir_tree.specs.declared.operand.Reg.TheVariants.{Int}
use Rattle.ir_verify.proofs.Keys.{met_again, fresh_more, fresh_differ, got_below}
use Rattle.ir_verify.proofs.cases.cases_differ.Goals as goal

none : Case
none = record { reg = Int 0; width = 0; bits = 0; target = 0 }

pub returns-then-not-branch : goal.returns-then-not-branch
unfolding none
returns-then-not-branch c =
    let met : set.contains nat_eq c.loop-case.seen (get_or c.args.cases.now c.loop-case.case-index none).bits ≡ true = search rules in (
      λ e. absurd (cc e),
      λ only. absurd (met_again (λ (e : Case). e.bits) c.args.cases.now c.loop-case.case-index none c.loop-case-test.true (sym (c.loop-case.invariant.seen (get_or c.args.cases.now c.loop-case.case-index none).bits) ∙ met) only),
    )

pub loop-case-preserved : goal.loop-case-preserved
unfolding none
loop-case-preserved c =
    let new : set.contains nat_eq c.loop-case.seen (get_or c.args.cases.now c.loop-case.case-index none).bits ≡ false = search rules in
    record {
      seen = λ q. grind (arith, common_steps, c.loop-case.invariant.seen q);
      fresh = fresh_more (λ (e : Case). e.bits) c.args.cases.now c.loop-case.case-index none c.loop-case.invariant.fresh (sym (c.loop-case.invariant.seen (get_or c.args.cases.now c.loop-case.case-index none).bits) ∙ new);
    }

pub returns : goal.returns
returns c =
    (λ e. fresh_differ (λ (e : Case). e.bits) c.args.cases.now (λ i x g. c.loop-case.invariant.fresh i x (omega (arith, got_below c.args.cases.now i x g)) g), λ only. search rules)
