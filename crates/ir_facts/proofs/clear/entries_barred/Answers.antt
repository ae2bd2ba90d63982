use Rattle.std.proofs.Common.{refl, sym, ◌∙◌}
use Rattle.std.proofs.lemmas.List.{at_drop_all}
use Rattle.std.specs.BTreeMap.{get}
use Rattle.std.specs.Ordering.{nat_cmp}
use Rattle.ir_facts.specs.Clear.{entries_barred}
use Rattle.ir_facts.specs.Scopes.{bars}
use Rattle.fact_sources.proofs.Stepping.{met, passed}
use Rattle.ir_facts.proofs.clear.entries_barred.Goals as goal

pub loop-entry-preserved : goal.loop-entry-preserved
loop-entry-preserved c =
    passed (entries_barred (bars c.args.scopes.now) (get nat_cmp c.args.scopes.now.numbers)) c.args.incoming.now c.loop-entry.entry-index c.entry-item.result _ c.loop-entry-test.true c.entry-item.is refl
    (sym c.is_taken.ensures ∙ c.if-is_taken.false)
    ∙ c.loop-entry.invariant

pub returns-then-is_taken : goal.returns-then-is_taken
returns-then-is_taken c =
    met (entries_barred (bars c.args.scopes.now) (get nat_cmp c.args.scopes.now.numbers)) c.args.incoming.now c.loop-entry.entry-index c.entry-item.result _ c.loop-entry-test.true c.entry-item.is refl
    (sym c.is_taken.ensures ∙ c.if-is_taken.true)
    ∙ c.loop-entry.invariant

pub returns : goal.returns
returns c =
    sym (at_drop_all (entries_barred (bars c.args.scopes.now) (get nat_cmp c.args.scopes.now.numbers)) c.args.incoming.now c.loop-entry.entry-index c.loop-entry-test.false)
    ∙ c.loop-entry.invariant
