use Rattle.std.proofs.Common.{arith, ◌≡◌, sym, ap, ◌∙◌}
use Rattle.ir_tree.specs.Forms.{forms_of}
use Rattle.ir_tree.specs.Layout as layout
use Rattle.ir_tree.proofs.Layouts.{step_least, step_to}
use Rattle.ir_interp.proofs.Extents.{begins_most, size_most}
use Rattle.std.proofs.lemmas.List.{drop_all}
use Rattle.ir_interp.proofs.extent.end_of.Goals as goal

pub overflow_add-end : goal.overflow_add-end
overflow_add-end c =
    let laid = step_to c.args.parts.now c.loop-part.part-index c.part-item.result c.loop-part-test.true c.part-item.is (λ more. layout.AreLaidOut (forms_of more)) c.loop-part.invariant.laid in
    omega (arith, c.begin_of.ensures, c.size_of.ensures, c.loop-part.invariant.near, begins_most c.args.packed c.loop-part.end c.part-item.result laid.0, size_most c.part-item.result laid.0)

pub loop-part-preserved : goal.loop-part-preserved
loop-part-preserved c =
    let step = step_to c.args.parts.now c.loop-part.part-index c.part-item.result c.loop-part-test.true c.part-item.is in
    let total = step (λ more. layout.ends c.args.packed c.loop-part.end (forms_of more) ≡ layout.ends c.args.packed 0 (forms_of c.args.parts.now)) c.loop-part.invariant.total in
    let laid = step (λ more. layout.AreLaidOut (forms_of more)) c.loop-part.invariant.laid in
    record {
      total = rw (c.begin_of.ensures, c.size_of.ensures) total;
      near = omega (arith, c.if-end-gt-MOST.false);
      laid = laid.1;
    }

pub returns-then-end-gt-MOST-clause-none : goal.returns-then-end-gt-MOST-clause-none
returns-then-end-gt-MOST-clause-none c = λ none.
    omega (arith, c.if-end-gt-MOST.true, c.begin_of.ensures, c.size_of.ensures, c.loop-part.invariant.total, step_least c.args.packed c.loop-part.end c.args.parts.now c.loop-part.part-index c.part-item.result c.loop-part-test.true c.part-item.is c.loop-part.invariant.laid)

pub returns-clause-some : goal.returns-clause-some
returns-clause-some c =
    let none = drop_all c.loop-part.part-index c.args.parts.now (omega (arith, c.loop-part-test.false)) in
    (sym (ap (λ more. layout.ends c.args.packed c.loop-part.end (forms_of more)) none) ∙ c.loop-part.invariant.total, c.loop-part.invariant.near)
