use Rattle.std.proofs.Common.{◌++◌, refl, sym, ◌∙◌, length, subst, ap}
use Rattle.ir_flow.specs.Narrowing.{marked, AreSized}
use Rattle.ir_facts.specs.FactFlow.{flow_points}
use Rattle.ir_facts.proofs.FactSolutions.{fact_made}
use Rattle.ir_facts.proofs.points.fact_of.Goals as goal

pub returns : goal.returns
returns c =
    let f = c.args.function.now in
    let x = c.args.pair.now.0 in
    let v = c.args.pair.now.1 in
    let w = c.in_ok-value.value in (
      refl,
      c.in_ok-value.ensures,
      fact_made f x v w c.requires.formed.once c.in_ok-rows.rows.items c.in_ok-rows.ensures.1 c.in_ok-value.ensures c.deref-2.result.now c.in_ok-at.at
          (c.deref-2.ensures.value ∙ c.in_ok-push_points.ensures
          ∙ λ i. c.new-marks.ensures.items i ++ flow_points x (sym c.in_ok-value.ensures i) (marked (c.deref.ensures.value i)) 0 (c.as_slice-blocks.ensures i))
          c.in_ok-at.ensures,
    )

pub push_points-requires : goal.push_points-requires
push_points-requires c = record {
  long = ap length c.deref.ensures.value ∙ c.in_ok-rows.ensures.0 ∙ sym (ap length c.as_slice-blocks.ensures);
  sized = subst (AreSized 2) (sym c.deref.ensures.value) c.in_ok-rows.ensures.2;
}
