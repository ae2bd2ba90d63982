use Rattle.std.proofs.Common.{◌+◌, ◌||◌, ◌&&◌, drop, sym, ap, ◌∙◌}
use Rattle.ir_facts.specs.Candidates.{takes_only}
use Rattle.fact_sources.proofs.Stepping.{cut_at}
use Rattle.std.proofs.lemmas.List.{at_drop_all}
use Rattle.ir_facts.proofs.sources.takes_only.Goals as goal

pub returns-then-not-is_same : goal.returns-then-not-is_same
returns-then-not-is_same c =
    let incoming = c.args.incoming.now in
    let i = c.loop-entry.entry-index in
    let here = cut_at incoming i c.entry-item.result c.loop-entry-test.true c.entry-item.is in
    let own = sym c.is_local.ensures ∙ c.if-not-is_local.true in
    let same = sym c.is_same.ensures ∙ c.if-not-is_same.true in
    sym (ap (takes_only c.args.local c.args.value.now) here ∙ (λ j. (own j || same j) && takes_only c.args.local c.args.value.now (drop (i + 1) incoming))) ∙ c.loop-entry.invariant

pub returns : goal.returns
returns c = sym (at_drop_all (takes_only c.args.local c.args.value.now) c.args.incoming.now c.loop-entry.entry-index c.loop-entry-test.false) ∙ c.loop-entry.invariant
