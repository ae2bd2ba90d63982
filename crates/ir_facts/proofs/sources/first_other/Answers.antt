use Rattle.std.proofs.Common.{Bool, Some, if◌then◌else◌, ◌+◌, drop, sym, ap, ◌∙◌}
use Rattle.std.proofs.lemmas.List.{at_drop_all}
use Rattle.ir_facts.specs.Candidates.{first_other}
use Rattle.ir_facts.proofs.Walking.{found_at, looked_past}
use Rattle.ir_facts.proofs.sources.first_other.Goals as goal

pub loop-entry-preserved : goal.loop-entry-preserved
loop-entry-preserved c =
    looked_past (first_other c.args.local) c.args.incoming.now c.loop-entry.entry-index c.entry-item.result c.loop-entry-test.true c.entry-item.is
    (ap (λ (t : Bool). if t then first_other c.args.local (drop (c.loop-entry.entry-index + 1) c.args.incoming.now) else Some c.entry-item.result.value) (sym c.is_local.ensures ∙ c.if-not-is_local.false))
    ∙ c.loop-entry.invariant

pub returns-then-not-is_local : goal.returns-then-not-is_local
returns-then-not-is_local c =
    found_at (first_other c.args.local) c.args.incoming.now c.loop-entry.entry-index c.entry-item.result (Some c.entry-item.result.value) c.loop-entry-test.true c.entry-item.is
    (ap (λ (t : Bool). if t then first_other c.args.local (drop (c.loop-entry.entry-index + 1) c.args.incoming.now) else Some c.entry-item.result.value) (sym c.is_local.ensures ∙ c.if-not-is_local.true))
    ∙ c.loop-entry.invariant

pub returns : goal.returns
returns c = sym (at_drop_all (first_other c.args.local) c.args.incoming.now c.loop-entry.entry-index c.loop-entry-test.false) ∙ c.loop-entry.invariant
