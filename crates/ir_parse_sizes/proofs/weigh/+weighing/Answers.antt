use Rattle.std.proofs.Common.{◌≤◌, List, sym, subst, ◌∙◌, arith}
use Rattle.ir_parse_parts.specs.Shapes.{parts_of}
use Rattle.ir_parse_parts.specs.ShapeSizes.{all_nodes}
use Rattle.ir_parse_names.proofs.Each.{here, goes_on}
use Rattle.ir_parse_sizes.specs.declared.measure.Measure.{Measure}
use Rattle.ir_parse_sizes.specs.Measures.{AreSmall, weigh}
use Rattle.ir_parse_sizes.proofs.Small.{small_push}
use Rattle.ir_parse_sizes.proofs.weigh.+weighing.Goals as goal

pub weigh-array_of-requires : goal.weigh-array_of-requires
weigh-array_of-requires t c = c.in_ok-of-in-Array.ensures.small

pub weigh-structure_of-requires : goal.weigh-structure_of-requires
weigh-structure_of-requires t c = subst (λ (ms : List Measure). AreSmall ms) (sym c.as_slice.ensures.value) c.in_ok-parts-in-Struct.ensures.small

pub weigh-weigh_name-requires : goal.weigh-weigh_name-requires
weigh-weigh_name-requires t c = c.requires

pub weigh-returns-in-Int-clause-small : goal.weigh-returns-in-Int-clause-small
weigh-returns-in-Int-clause-small t c = c.scalar.ensures.small

pub weigh-returns-in_ok-of-in-Array-clause-small : goal.weigh-returns-in_ok-of-in-Array-clause-small
weigh-returns-in_ok-of-in-Array-clause-small t c = c.array_of.ensures.small

pub weigh-returns-in_ok-parts-in-Struct-clause-small : goal.weigh-returns-in_ok-parts-in-Struct-clause-small
weigh-returns-in_ok-parts-in-Struct-clause-small t c = c.structure_of.ensures.small

pub weigh-returns-in-Named-clause-small : goal.weigh-returns-in-Named-clause-small
weigh-returns-in-Named-clause-small t c = c.weigh_name.ensures.small

pub weigh_all-returns-clause-small : goal.weigh_all-returns-clause-small
weigh_all-returns-clause-small t c = c.each.invariant.small

pub weigh_all-each-preserved : goal.weigh_all-each-preserved
weigh_all-each-preserved t c =
    let step = goes_on (weigh c.args.names.now c.args.known.now c.args.line) c.args.shapes.now c.each.shape-index c.each.out.items c.shape-item.result c.in_ok-measure.measure c.each-test.true c.shape-item.is c.in_ok-measure.ensures.given in
    let left = subst (λ ss. all_nodes (parts_of ss) ≤ all_nodes (parts_of c.args.shapes.now)) (here c.args.shapes.now c.each.shape-index c.shape-item.result c.each-test.true c.shape-item.is) c.each.invariant.left in
    record {
      rest = rw (c.in_ok-push.ensures.items) (sym step ∙ c.each.invariant.rest);
      small = rw (c.in_ok-push.ensures.items) (small_push c.each.out.items c.in_ok-measure.measure c.each.invariant.small c.in_ok-measure.ensures.small);
      left = omega (arith, left);
    }
