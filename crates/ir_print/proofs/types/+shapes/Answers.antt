use Rattle.std.proofs.Common.{◌≤◌, ◌++◌, ◌-◌, length, take, drop, arith, ap, refl}
use Rattle.std.specs.Prelude.{codes}
use Rattle.ir_tree.specs.Forms.{Form, forms_of}
use Rattle.ir_tree.specs.Sizes.{all_nodes}
use Rattle.ir_print.specs.Tokens.{comma, mark, space, tight, word}
use Rattle.ir_print.specs.Types as types
use Rattle.ir_print.proofs.Written.{finish, opened, first_on, each_on, dropped, respelt, led_shape, all_on}
use Rattle.ir_print.proofs.types.+shapes.Goals as goal

pub array-returns : goal.array-returns
array-returns t c =
    finish _ _ _ _ _ _ c.in_ok-mark.ensures
    (finish _ _ _ _ _ _ c.in_ok-natural.ensures
    (finish _ _ _ _ _ _ (respelt _ (word space (codes "x") ++ types.shape space c.args.of.now) _ _ (led_shape (codes " x") c.args.of.now) c.in_ok-shape.ensures) c.mark-2.ensures))

pub packed_structure-returns : goal.packed_structure-returns
packed_structure-returns t c =
    finish _ _ _ _ _ _ (respelt _ (mark c.args.lead.now 60 ++ mark tight 123) _ _ refl c.in_ok-word.ensures) (finish _ _ _ _ _ _ c.in_ok-members.ensures c.mark.ensures)

pub members-returns-in_ok-further_members-in-len1-up : goal.members-returns-in_ok-further_members-in-len1-up
members-returns-in_ok-further_members-in-len1-up t c =
    let rest = take (length c.args.parts.now - 1) (drop 1 c.args.parts.now) in
    first_on _ (types.shape space) (λ fs. types.further_members (forms_of fs) ++ mark space 125) (λ fs. types.members (forms_of fs)) (λ y ys. refl) c.args.parts.now c.first-item.result _ c.in-len1-up.len_at_least c.first-item.is _ _ _ c.in_ok-shape-in-len1-up.ensures
    (finish _ (types.further_members (forms_of rest)) (mark space 125) _ _ _ c.in_ok-further_members-in-len1-up.ensures c.mark-in-len1-up.ensures)

pub further_members-each-preserved : goal.further_members-each-preserved
further_members-each-preserved t c =
    let left = dropped c.args.parts.now c.each.part-index c.part-item.result _ c.each-test.true c.part-item.is (λ fs. all_nodes (forms_of fs) ≤ all_nodes (forms_of c.args.parts.now)) c.each.invariant.left in
    record {
      written = each_on (λ (f : Form). comma ++ types.shape space f) (λ fs. types.further_members (forms_of fs)) (λ y ys. refl) c.args.parts.now c.each.part-index c.part-item.result _ c.each-test.true c.part-item.is _ _ _ c.each.invariant.written
          (respelt _ (comma ++ types.shape space c.part-item.result) _ _ (led_shape (codes ",") c.part-item.result) c.in_ok-shape.ensures);
      left = omega (arith, left);
    }

pub further_members-returns : goal.further_members-returns
further_members-returns t c = all_on (λ fs. types.further_members (forms_of fs)) refl c.args.parts.now c.each.part-index c.each-test.false _ _ _ c.each.invariant.written

pub members-further_members-requires : goal.members-further_members-requires
members-further_members-requires t c =
    let left = ap (λ fs. all_nodes (forms_of fs)) (opened c.args.parts.now c.first-item.result _ c.in-len1-up.len_at_least c.first-item.is) in (
      omega (arith, left),
      tt,
    )

pub further_members-shape-requires : goal.further_members-shape-requires
further_members-shape-requires t c =
    let left = dropped c.args.parts.now c.each.part-index c.part-item.result _ c.each-test.true c.part-item.is (λ fs. all_nodes (forms_of fs) ≤ all_nodes (forms_of c.args.parts.now)) c.each.invariant.left in (
      omega (arith, left),
      tt,
    )
