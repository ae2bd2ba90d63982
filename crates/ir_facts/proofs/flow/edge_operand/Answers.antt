use Rattle.std.proofs.Common.{Bool, Some, if◌then◌else◌, ◌+◌, drop, sym, ap, ◌∙◌}
use Rattle.std.proofs.lemmas.List.{at_drop_all}
use Rattle.std.proofs.lemmas.Bool.{eq-eqb, ne_eqb}
use Rattle.ir_meaning.specs.Facts.{edge_operand}
use Rattle.ir_facts.proofs.Walking.{found_at, looked_past}
use Rattle.ir_facts.proofs.flow.edge_operand.Goals as goal

pub returns-then-entry-from : goal.returns-then-entry-from
returns-then-entry-from c =
    found_at (edge_operand c.args.from) c.args.incoming.now c.loop-entry.entry-index c.entry-item.result (Some c.entry-item.result.value) c.loop-entry-test.true c.entry-item.is
    (ap (λ (t : Bool). if t then Some c.entry-item.result.value else edge_operand c.args.from (drop (c.loop-entry.entry-index + 1) c.args.incoming.now)) (eq-eqb c.entry-item.result.from c.args.from c.if-entry-from.true))
    ∙ c.loop-entry.invariant

pub returns : goal.returns
returns c = sym (at_drop_all (edge_operand c.args.from) c.args.incoming.now c.loop-entry.entry-index c.loop-entry-test.false) ∙ c.loop-entry.invariant

pub loop-entry-preserved : goal.loop-entry-preserved
loop-entry-preserved c =
    looked_past (edge_operand c.args.from) c.args.incoming.now c.loop-entry.entry-index c.entry-item.result c.loop-entry-test.true c.entry-item.is
    (ap (λ (t : Bool). if t then Some c.entry-item.result.value else edge_operand c.args.from (drop (c.loop-entry.entry-index + 1) c.args.incoming.now)) (ne_eqb c.entry-item.result.from c.args.from c.if-entry-from.false))
    ∙ c.loop-entry.invariant
