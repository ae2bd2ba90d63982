use Rattle.std.proofs.Common.{refl, sym, ap, ◌∙◌}
use Rattle.std.proofs.lemmas.List.{at_drop_all}
use Rattle.std.specs.BTreeMap.{get}
use Rattle.std.specs.Ordering.{nat_cmp}
use Rattle.ir_facts.specs.Clear.{entries_barred, phis_barred}
use Rattle.ir_facts.specs.Scopes.{bars}
use Rattle.fact_sources.proofs.Stepping.{met, passed}
use Rattle.ir_facts.proofs.clear.phis_barred.Goals as goal

pub loop-phi-preserved : goal.loop-phi-preserved
loop-phi-preserved c =
    let bars = bars c.args.scopes.now in
    let place = get nat_cmp c.args.scopes.now.numbers in
    passed (phis_barred bars place) c.args.phis.now c.loop-phi.phi-index c.phi-item.result _ c.loop-phi-test.true c.phi-item.is refl
    (sym (c.entries_barred.ensures ∙ ap (entries_barred bars place) c.as_slice.ensures) ∙ c.if-entries_barred.false)
    ∙ c.loop-phi.invariant

pub returns-then-entries_barred : goal.returns-then-entries_barred
returns-then-entries_barred c =
    let bars = bars c.args.scopes.now in
    let place = get nat_cmp c.args.scopes.now.numbers in
    met (phis_barred bars place) c.args.phis.now c.loop-phi.phi-index c.phi-item.result _ c.loop-phi-test.true c.phi-item.is refl
    (sym (c.entries_barred.ensures ∙ ap (entries_barred bars place) c.as_slice.ensures) ∙ c.if-entries_barred.true)
    ∙ c.loop-phi.invariant

pub returns : goal.returns
returns c =
    sym (at_drop_all (phis_barred (bars c.args.scopes.now) (get nat_cmp c.args.scopes.now.numbers)) c.args.phis.now c.loop-phi.phi-index c.loop-phi-test.false)
    ∙ c.loop-phi.invariant
