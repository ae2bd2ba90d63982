use Rattle.std.proofs.Common.{◌≡◌, List, Err, refl, sym, ap, subst, ◌∙◌, ◌-◌, arith}
use Rattle.std.proofs.lemmas.Result.{err_from_is_err_and}
use Rattle.ir_tree.specs.Forms.{Form, forms_of}
use Rattle.ir_tree.specs.Layout.{AreLaidOut}
use Rattle.ir_tree.specs.declared.failure.Failure.{Failure}
use Rattle.ir_parse_names.specs.declared.fault.Fault.{Fault}
use Rattle.ir_parse_names.specs.Resolving.{each}
use Rattle.ir_parse_names.specs.Types.{expand}
use Rattle.ir_parse_parts.specs.Shapes.{int, pointer, array, structure, named, parts_of, list_of_parts}
use Rattle.ir_parse_names.proofs.Each.{all_made, goes_on, none_made, one_fails}
use Rattle.ir_parse_names.proofs.Failing.{fails_too}
use Rattle.ir_parse_names.proofs.Expanding.{opened_step, structure_step, array_step}
use Rattle.ir_parse_names.proofs.Sizes.{laid_push}
use Rattle.ir_parse_names.proofs.expand.+expansion.Goals as goal

pub expand_all-each-preserved : goal.expand_all-each-preserved
expand_all-each-preserved t c =
    let step = goes_on (expand c.args.nesting c.args.types.now c.args.line) c.args.shapes.now c.each.shape-index c.each.out.items c.shape-item.result c.in_ok-made.made c.each-test.true c.shape-item.is c.in_ok-made.ensures.given in
    record {
      rest = rw (c.in_ok-push.ensures.items) (sym step ∙ c.each.invariant.rest);
      laid = rw (c.in_ok-push.ensures.items) (laid_push c.each.out.items c.in_ok-made.made c.each.invariant.laid c.in_ok-made.ensures.laid);
    }

pub expand-returns-in-Struct-clause-given : goal.expand-returns-in-Struct-clause-given
expand-returns-in-Struct-clause-given t c =
    let shape : c.in_ok-head.head.now ≡ structure c.in-Struct.packed (parts_of c.deref-in-Struct.result.now) = rw (c.node.ensures, c.in-Struct.is, c.deref-in-Struct.ensures.value) refl in
    let step = structure_step c.args.nesting (c.args.nesting - 1) c.args.types.now c.args.line c.args.shape.now c.in_ok-head.head.now (omega (arith, c.if-nesting-eq0.false)) c.in_ok-head.ensures c.in-Struct.packed c.deref-in-Struct.result.now shape in
    rw step c.expand_struct.ensures.given

pub expand-returns-in-Int-clause-given : goal.expand-returns-in-Int-clause-given
expand-returns-in-Int-clause-given t c =
    let shape : c.in_ok-head.head.now ≡ int c.in-Int.width = rw (c.node.ensures, c.in-Int.is) refl in
    let step = opened_step c.args.nesting (c.args.nesting - 1) c.args.types.now c.args.line c.args.shape.now c.in_ok-head.head.now (omega (arith, c.if-nesting-eq0.false)) c.in_ok-head.ensures (int c.in-Int.width) shape in
    rw step c.scalar.ensures.given

pub expand-returns-in-Ptr-clause-given : goal.expand-returns-in-Ptr-clause-given
expand-returns-in-Ptr-clause-given t c =
    let shape : c.in_ok-head.head.now ≡ pointer = rw (c.node.ensures, c.in-Ptr.is) refl in
    rw (c.ptr.ensures) (opened_step c.args.nesting (c.args.nesting - 1) c.args.types.now c.args.line c.args.shape.now c.in_ok-head.head.now (omega (arith, c.if-nesting-eq0.false)) c.in_ok-head.ensures pointer shape)

pub expand-returns-in_ok-of-in-Array-clause-given : goal.expand-returns-in_ok-of-in-Array-clause-given
expand-returns-in_ok-of-in-Array-clause-given t c =
    let shape : c.in_ok-head.head.now ≡ array c.in-Array.count c.deref.result.now = rw (c.node.ensures, c.in-Array.is, c.deref.ensures) refl in
    let step = array_step c.args.nesting (c.args.nesting - 1) c.args.types.now c.args.line c.args.shape.now c.in_ok-head.head.now (omega (arith, c.if-nesting-eq0.false)) c.in_ok-head.ensures c.in-Array.count c.deref.result.now c.in_ok-of-in-Array.of shape c.in_ok-of-in-Array.ensures.given in
    rw step c.array_within.ensures.given

pub expand-returns-in-Named-clause-given : goal.expand-returns-in-Named-clause-given
expand-returns-in-Named-clause-given t c =
    let shape : c.in_ok-head.head.now ≡ named c.in-Named.name = rw (c.node.ensures, c.in-Named.is) refl in
    rw (c.unknown.ensures, c.line.ensures) (opened_step c.args.nesting (c.args.nesting - 1) c.args.types.now c.args.line c.args.shape.now c.in_ok-head.head.now (omega (arith, c.if-nesting-eq0.false)) c.in_ok-head.ensures (named c.in-Named.name) shape)

pub expand_all-each-init : goal.expand_all-each-init
expand_all-each-init t c =
    record {
      rest = none_made (expand c.args.nesting c.args.types.now c.args.line) c.args.shapes.now c.new-out.result.items c.new-out.ensures.items ∙ ap (each (expand c.args.nesting c.args.types.now c.args.line)) (sym (list_of_parts c.args.shapes.now));
      laid = subst (λ (fs : List Form). AreLaidOut (forms_of fs)) (sym c.new-out.ensures.items) tt;
    }

pub expand_all-returns-clause-given : goal.expand_all-returns-clause-given
expand_all-returns-clause-given t c = all_made (expand c.args.nesting c.args.types.now c.args.line) c.args.shapes.now c.each.shape-index c.each.out.items _ c.each-test.false c.each.invariant.rest

pub expand_all-returns-in_err-made-clause-given : goal.expand_all-returns-in_err-made-clause-given
expand_all-returns-in_err-made-clause-given t c =
    let e : Failure Fault = c.in_err-made.field-0.0 in
    let p = err_from_is_err_and c.from_residual.result c.from_residual.ensures.1 in
    fails_too {V = Form} (λ f. f) _ c.from_residual.result e (expand c.args.nesting c.args.types.now c.args.line c.shape-item.result) _ (p.1 ∙ ap (λ (x : Failure Fault). Err x) p.2) c.in_err-made.ensures.given
    (λ d h. one_fails (expand c.args.nesting c.args.types.now c.args.line) c.args.shapes.now c.each.shape-index c.each.out.items c.shape-item.result d _ c.each-test.true c.shape-item.is h c.each.invariant.rest)
