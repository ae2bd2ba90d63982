use Rattle.std.proofs.Common.{◌≡◌, ◌+◌, List, drop, max, sym, ap, subst, ◌∙◌, arith}
use Rattle.ir_tree.specs.Forms.{Form, forms_of}
use Rattle.ir_tree.specs.Layout.{AreLaidOut, align, widest}
use Rattle.ir_parse_names.proofs.Each.{here}
use Rattle.ir_parse_names.proofs.expand.widest.Goals as goal

pub each-preserved : goal.each-preserved
each-preserved c =
    let one = here c.args.parts.now c.each.part-index c.part-item.result c.each-test.true c.part-item.is in
    let so_far : max c.each.most (max (align c.part-item.result) (widest (forms_of (drop (c.each.part-index + 1) c.args.parts.now)))) ≡ widest (forms_of c.args.parts.now) =
    sym (ap (λ (fs : List Form). max c.each.most (widest (forms_of fs))) one) ∙ c.each.invariant.rest in
    let next : c.max-most.result ≡ max c.each.most (align c.part-item.result) = grind arith in
    record {
      rest = omega (arith, so_far, next);
      least = omega (arith, next, c.each.invariant.least);
      laid = (subst (λ (fs : List Form). AreLaidOut (forms_of fs)) one c.each.invariant.laid).1;
    }
