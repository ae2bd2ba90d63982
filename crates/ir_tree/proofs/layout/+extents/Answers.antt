use Rattle.std.proofs.Common.{arith, ◌≡◌, ◌≤◌, ◌∙◌, ap, rules, if◌then◌else◌, max}
use Rattle.ir_tree.specs.Forms.{forms_of}
use Rattle.ir_tree.specs.Sizes.{all_nodes}
use Rattle.ir_tree.specs.Layout as layout
use Rattle.ir_tree.proofs.Layouts.{align_least, align_most, step_least, step_to}
use Rattle.ir_tree.proofs.layout.+extents.Goals as goal

pub together-begin_at-requires-clause-least : goal.together-begin_at-requires-clause-least
together-begin_at-requires-clause-least t c =
    let laid = step_to c.args.parts.now c.loop-part.part-index c.part-item.result c.loop-part-test.true c.part-item.is (λ more. layout.AreLaidOut (forms_of more)) c.loop-part.invariant.laid in
    omega (arith, c.extent_of-next.ensures.align, align_least c.part-item.result laid.0)

pub together-begin_at-requires-clause-most : goal.together-begin_at-requires-clause-most
together-begin_at-requires-clause-most t c =
    let laid = step_to c.args.parts.now c.loop-part.part-index c.part-item.result c.loop-part-test.true c.part-item.is (λ more. layout.AreLaidOut (forms_of more)) c.loop-part.invariant.laid in
    omega (arith, c.extent_of-next.ensures.align, align_most c.part-item.result laid.0)

pub together-overflow_add-end : goal.together-overflow_add-end
together-overflow_add-end t c =
    let begins = c.begin_at.ensures ∙ ap (λ a. if c.args.packed then c.loop-part.end else layout.rounded c.loop-part.end a) c.extent_of-next.ensures.align in
    omega (
      arith,
      step_least c.args.packed c.loop-part.end c.args.parts.now c.loop-part.part-index c.part-item.result c.loop-part-test.true c.part-item.is c.loop-part.invariant.laid,
      c.loop-part.invariant.total,
      c.requires.within,
      begins,
      c.extent_of-next.ensures.size,
    )

pub together-loop-part-preserved : goal.together-loop-part-preserved
together-loop-part-preserved t c =
    let begins = c.begin_at.ensures ∙ ap (λ a. if c.args.packed then c.loop-part.end else layout.rounded c.loop-part.end a) c.extent_of-next.ensures.align in
    let step = step_to c.args.parts.now c.loop-part.part-index c.part-item.result c.loop-part-test.true c.part-item.is in
    let total = step (λ more. layout.ends c.args.packed c.loop-part.end (forms_of more) ≡ layout.ends c.args.packed 0 (forms_of c.args.parts.now)) c.loop-part.invariant.total in
    let most = step (λ more. max c.loop-part.widest (layout.widest (forms_of more)) ≡ layout.widest (forms_of c.args.parts.now)) c.loop-part.invariant.most in
    let laid = step (λ more. layout.AreLaidOut (forms_of more)) c.loop-part.invariant.laid in
    let left = step (λ more. all_nodes (forms_of more) ≤ all_nodes (forms_of c.args.parts.now)) c.loop-part.invariant.left in
    record {
      total = rw (begins, c.extent_of-next.ensures.size) total;
      most = search (rules, most, c.extent_of-next.ensures.align);
      near = omega (arith, step_least c.args.packed c.loop-part.end c.args.parts.now c.loop-part.part-index c.part-item.result c.loop-part-test.true c.part-item.is c.loop-part.invariant.laid, c.loop-part.invariant.total, c.requires.within, begins, c.extent_of-next.ensures.size);
      least = search (rules, c.loop-part.invariant.least);
      laid = laid.1;
      left = omega (arith, left);
    }
