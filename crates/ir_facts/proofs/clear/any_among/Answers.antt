use Rattle.std.proofs.Common.{nat_eq, refl, sym, ◌∙◌}
use Rattle.std.proofs.lemmas.List.{at_drop_all}
use Rattle.std.specs.HashSet.{contains}
use Rattle.ir_facts.specs.Clear.{any_among}
use Rattle.fact_sources.proofs.Stepping.{met, passed}
use Rattle.ir_facts.proofs.clear.any_among.Goals as goal

pub loop-pair-preserved : goal.loop-pair-preserved
loop-pair-preserved c =
    passed (any_among (contains nat_eq c.args.set.now)) c.args.found.now c.loop-pair.pair-index c.pair-item.result _ c.loop-pair-test.true c.pair-item.is refl
    (sym c.is_among.ensures ∙ c.if-is_among.false)
    ∙ c.loop-pair.invariant

pub returns-then-is_among : goal.returns-then-is_among
returns-then-is_among c =
    met (any_among (contains nat_eq c.args.set.now)) c.args.found.now c.loop-pair.pair-index c.pair-item.result _ c.loop-pair-test.true c.pair-item.is refl
    (sym c.is_among.ensures ∙ c.if-is_among.true)
    ∙ c.loop-pair.invariant

pub returns : goal.returns
returns c = sym (at_drop_all (any_among (contains nat_eq c.args.set.now)) c.args.found.now c.loop-pair.pair-index c.loop-pair-test.false) ∙ c.loop-pair.invariant
