use Rattle.ir_tree.specs.Views.{form_of}
use Rattle.std.proofs.Common.{◌≤◌, ◌^◌, List, sym, ap, subst, ◌∙◌, refl, arith, ℕ, ◌*◌, ◌+◌, drop, leb-true, le-leb}
use Rattle.ir_tree.specs.Forms.{Form, forms_of, structure}
use Rattle.ir_tree.specs.Layout as layout
use Rattle.ir_tree.specs.Layout.{IsLaidOut}
use Rattle.ir_interp.proofs.Runnable.{same_claim, false_claim}
use Rattle.std.proofs.lemmas.List.{drop_all}
use Rattle.ir_tree.specs.Sizes.{all_nodes, nodes}
use Rattle.ir_tree.proofs.Layouts.{step_to}
use Rattle.ir_interp.proofs.extent.+laid.Goals as goal

pub is_laid_out-returns-else-are_laid_out : goal.is_laid_out-returns-else-are_laid_out
is_laid_out-returns-else-are_laid_out t c =
    same_claim IsLaidOut c.args.shape.now _ (c.node.ensures ∙ ap form_of c.in-Struct.is)
    (false_claim c.are_laid_out.result c.if-are_laid_out.false (λ h. c.are_laid_out.ensures.1 (subst (λ (parts : List Form). layout.AreLaidOut (forms_of parts)) (sym c.deref-in-Struct.ensures.value) h.1)))

pub is_laid_out-returns-then-are_laid_out : goal.is_laid_out-returns-then-are_laid_out
is_laid_out-returns-then-are_laid_out t c =
    same_claim IsLaidOut c.args.shape.now _ (c.node.ensures ∙ ap form_of c.in-Struct.is) (
      λ e. (
        subst (λ (parts : List Form). layout.size (structure c.in-Struct.packed (forms_of parts)) ≤ 2 ^ 31) c.deref-then-are_laid_out.ensures.value (c.holds_parts.ensures.0 e),
        subst (λ (parts : List Form). layout.AreLaidOut (forms_of parts)) c.deref-in-Struct.ensures.value (c.are_laid_out.ensures.0 c.if-are_laid_out.true),
      ),
      λ h. c.holds_parts.ensures.1 (subst (λ (parts : List Form). layout.size (structure c.in-Struct.packed (forms_of parts)) ≤ 2 ^ 31) (sym c.deref-then-are_laid_out.ensures.value) h.0),
    )

pub is_laid_out-returns-then-is_laid_out : goal.is_laid_out-returns-then-is_laid_out
is_laid_out-returns-then-is_laid_out t c =
    same_claim IsLaidOut c.args.shape.now _ (c.node.ensures ∙ ap form_of c.in-Array.is) (
      λ e. (
        subst (λ (f : Form). c.in-Array.count * layout.size f ≤ 2 ^ 31) c.deref-then-is_laid_out.ensures (subst (λ (n : ℕ). c.in-Array.count * n ≤ 2 ^ 31) c.size_of.ensures (c.holds.ensures.0 e)),
        subst IsLaidOut c.deref.ensures (c.is_laid_out.ensures.0 c.if-is_laid_out.true),
      ),
      λ h. c.holds.ensures.1 (subst (λ (n : ℕ). c.in-Array.count * n ≤ 2 ^ 31) (sym c.size_of.ensures) (subst (λ (f : Form). c.in-Array.count * layout.size f ≤ 2 ^ 31) (sym c.deref-then-is_laid_out.ensures) h.0)),
    )

pub is_laid_out-returns-else-is_laid_out : goal.is_laid_out-returns-else-is_laid_out
is_laid_out-returns-else-is_laid_out t c =
    same_claim IsLaidOut c.args.shape.now _ (c.node.ensures ∙ ap form_of c.in-Array.is) (false_claim c.is_laid_out.result c.if-is_laid_out.false (λ h. c.is_laid_out.ensures.1 (subst IsLaidOut (sym c.deref.ensures) h.1)))

pub is_laid_out-returns-then-width-ge8 : goal.is_laid_out-returns-then-width-ge8
is_laid_out-returns-then-width-ge8 t c =
    same_claim IsLaidOut c.args.shape.now _ (c.node.ensures ∙ ap form_of c.in-Int.is) (λ e. (c.if-width-ge8.true, leb-true c.in-Int.width 64 e), λ h. le-leb c.in-Int.width 64 h.1)

pub is_laid_out-returns-else-width-ge8 : goal.is_laid_out-returns-else-width-ge8
is_laid_out-returns-else-width-ge8 t c =
    same_claim IsLaidOut c.args.shape.now _ (c.node.ensures ∙ ap form_of c.in-Int.is) (λ e. absurd (omega (arith, leb-true 8 c.in-Int.width e, c.if-width-ge8.false)), λ h. le-leb 8 c.in-Int.width h.0)

pub are_laid_out-loop-part-preserved : goal.are_laid_out-loop-part-preserved
are_laid_out-loop-part-preserved t c =
    let step = step_to c.args.parts.now c.loop-part.part-index c.part-item.result c.loop-part-test.true c.part-item.is in
    let all = step (λ more. layout.AreLaidOut (forms_of more) → layout.AreLaidOut (forms_of c.args.parts.now)) c.loop-part.invariant.all in
    let left : nodes c.part-item.result + 1 + all_nodes (forms_of (drop (c.loop-part.part-index + 1) c.args.parts.now)) ≤ all_nodes (forms_of c.args.parts.now)
    = step (λ more. all_nodes (forms_of more) ≤ all_nodes (forms_of c.args.parts.now)) c.loop-part.invariant.left in
    record {
      all = λ h. all (c.is_laid_out.ensures.0 c.if-not-is_laid_out.false, h);
      rest = λ h. (step (λ more. layout.AreLaidOut (forms_of more)) (c.loop-part.invariant.rest h)).1;
      left = omega (arith, left);
    }

pub are_laid_out-returns-then-not-is_laid_out : goal.are_laid_out-returns-then-not-is_laid_out
are_laid_out-returns-then-not-is_laid_out t c =
    false_claim c.is_laid_out.result c.if-not-is_laid_out.true (λ h.
    c.is_laid_out.ensures.1 (step_to c.args.parts.now c.loop-part.part-index c.part-item.result c.loop-part-test.true c.part-item.is (λ more. layout.AreLaidOut (forms_of more)) (c.loop-part.invariant.rest h)).0)

pub are_laid_out-returns : goal.are_laid_out-returns
are_laid_out-returns t c =
    let none = drop_all c.loop-part.part-index c.args.parts.now (omega (arith, c.loop-part-test.false)) in
    (λ e. c.loop-part.invariant.all (subst (λ (parts : List Form). layout.AreLaidOut (forms_of parts)) (sym none) tt), λ h. refl)

pub is_laid_out-returns-in-Ptr : goal.is_laid_out-returns-in-Ptr
is_laid_out-returns-in-Ptr t c = same_claim IsLaidOut c.args.shape.now _ (c.node.ensures ∙ ap form_of c.in-Ptr.is) (λ e. tt, λ h. refl)

pub is_laid_out-holds_parts-requires : goal.is_laid_out-holds_parts-requires
is_laid_out-holds_parts-requires t c = record {
  laid = subst (λ (parts : List Form). layout.AreLaidOut (forms_of parts)) (sym c.deref-then-are_laid_out.ensures.value)
      (subst (λ (parts : List Form). layout.AreLaidOut (forms_of parts)) c.deref-in-Struct.ensures.value (c.are_laid_out.ensures.0 c.if-are_laid_out.true));
}

pub is_laid_out-size_of-requires : goal.is_laid_out-size_of-requires
is_laid_out-size_of-requires t c = record {
  laid = subst IsLaidOut (sym c.deref-then-is_laid_out.ensures) (subst IsLaidOut c.deref.ensures (c.is_laid_out.ensures.0 c.if-is_laid_out.true));
}

pub are_laid_out-is_laid_out-requires : goal.are_laid_out-is_laid_out-requires
are_laid_out-is_laid_out-requires t c =
    let left : nodes c.part-item.result + 1 + all_nodes (forms_of (drop (c.loop-part.part-index + 1) c.args.parts.now)) ≤ all_nodes (forms_of c.args.parts.now)
    = step_to c.args.parts.now c.loop-part.part-index c.part-item.result c.loop-part-test.true c.part-item.is (λ more. all_nodes (forms_of more) ≤ all_nodes (forms_of c.args.parts.now)) c.loop-part.invariant.left in
    omega (arith, left)
