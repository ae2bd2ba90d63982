use Rattle.std.proofs.Common.{ℕ, ◌+◌, List, drop, sym, ap, subst, ◌∙◌, arith}
use Rattle.ir_tree.specs.Forms.{Form, forms_of}
use Rattle.ir_tree.specs.Layout.{AreLaidOut, ends}
use Rattle.ir_parse_names.proofs.Each.{here}
use Rattle.ir_tree.proofs.Layouts.{step_least}
use Rattle.ir_parse_names.proofs.expand.end_of.Goals as goal

pub returns-then-end-gt-MOST : goal.returns-then-end-gt-MOST
returns-then-end-gt-MOST c le =
    omega (
      arith,
      step_least c.args.packed c.each.end c.args.parts.now c.each.part-index c.part-item.result c.each-test.true c.part-item.is c.each.invariant.laid,
      c.each.invariant.rest,
      c.end_behind-end.ensures,
      c.if-end-gt-MOST.true,
      le,
    )

pub each-preserved : goal.each-preserved
each-preserved c =
    let one = here c.args.parts.now c.each.part-index c.part-item.result c.each-test.true c.part-item.is in
    record {
      rest = ap (λ (n : ℕ). ends c.args.packed n (forms_of (drop (c.each.part-index + 1) c.args.parts.now))) c.end_behind-end.ensures ∙ sym (ap (λ (fs : List Form). ends c.args.packed c.each.end (forms_of fs)) one) ∙ c.each.invariant.rest;
      laid = (subst (λ (fs : List Form). AreLaidOut (forms_of fs)) one c.each.invariant.laid).1;
      near = c.if-end-gt-MOST.false;
    }
