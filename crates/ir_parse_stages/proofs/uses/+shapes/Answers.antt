use Rattle.std.proofs.Common.{◌≤◌, subst, refl, arith}
use Rattle.ir_parse_parts.specs.Shapes.{parts_of}
use Rattle.ir_parse_parts.specs.ShapeSizes.{all_nodes}
use Rattle.ir_parse_names.specs.Marks.{uses, all_uses}
use Rattle.ir_parse_names.proofs.Each.{here}
use Rattle.ir_parse_stages.proofs.Gathering.{goes_on}
use Rattle.ir_parse_stages.proofs.uses.+shapes.Goals as goal

pub all_uses-each-preserved : goal.all_uses-each-preserved
all_uses-each-preserved t c =
    let left = subst (λ ss. all_nodes (parts_of ss) ≤ all_nodes (parts_of c.args.parts.now)) (here c.args.parts.now c.each.part-index c.part-item.result c.each-test.true c.part-item.is) c.each.invariant.left in
    record {
      rest = goes_on uses (λ ss. all_uses (parts_of ss)) (λ y ys. refl) c.args.parts.now c.each.part-index c.part-item.result _ _ _ c.each-test.true c.part-item.is c.each.invariant.rest c.in_ok-uses.ensures;
      left = omega (arith, left);
    }
