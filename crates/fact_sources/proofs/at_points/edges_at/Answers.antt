use Rattle.std.proofs.Common.{[], ◌∷◌, ◌++◌, refl, ap, ◌∙◌}
use Rattle.std.specs.BTreeMap.{get}
use Rattle.std.specs.Ordering.{nat_cmp}
use Rattle.ir_tree.specs.declared.instr.Incoming.{Incoming}
use Rattle.ir_tree.specs.declared.operand.Operand.{Operand}
use Rattle.fact_sources.specs.AtPoints.{edges_at, standing_behind}
use Rattle.ir_edit.proofs.Stepping.{given_more}
use Rattle.fact_sources.proofs.Stepping.{walked}
use Rattle.fact_sources.proofs.at_points.edges_at.Goals as goal

pub loop-edge-preserved : goal.loop-edge-preserved
loop-edge-preserved c =
    let facts = c.args.facts.now in
    let last = get nat_cmp c.args.last.now in
    let edge = c.edge-item.result in
    let old = c.loop-edge.rows in
    given_more (λ (e : Incoming). record { from = e.from; value = standing_behind facts (last e.from) e.value } ∷ []) (edges_at facts last) (λ e es. refl) c.args.incoming.now c.loop-edge.edge-index
    edge old c.push.new.self c.loop-edge-test.true c.edge-item.is
    (c.in_ok-push.ensures.ok ∙ ap (λ (o : Operand). old ++ record { from = edge.from; value = o } ∷ []) c.in_ok-value.ensures)
    ∙ c.loop-edge.invariant

pub returns : goal.returns
returns c = walked (edges_at c.args.facts.now (get nat_cmp c.args.last.now)) c.args.incoming.now c.loop-edge.edge-index c.loop-edge.rows refl c.loop-edge-test.false ∙ c.loop-edge.invariant
