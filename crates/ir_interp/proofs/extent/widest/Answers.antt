use Rattle.std.proofs.Common.{◌≡◌, arith, max, ◌+◌, drop, ap, ◌∙◌}
use Rattle.ir_tree.specs.Forms.{forms_of}
use Rattle.ir_tree.specs.Layout as layout
use Rattle.ir_tree.proofs.Layouts.{step_to, max_widest}
use Rattle.std.proofs.lemmas.List.{drop_all}
use Rattle.ir_interp.proofs.Extents.{greater_is_max}
use Rattle.ir_interp.proofs.extent.widest.Goals as goal

pub loop-part-preserved : goal.loop-part-preserved
loop-part-preserved c =
    let step = step_to c.args.parts.now c.loop-part.part-index c.part-item.result c.loop-part-test.true c.part-item.is in
    let most : max c.loop-part.most (max (layout.align c.part-item.result) (layout.widest (forms_of (drop (c.loop-part.part-index + 1) c.args.parts.now)))) ≡ layout.widest (forms_of c.args.parts.now)
    = step (λ more. max c.loop-part.most (layout.widest (forms_of more)) ≡ layout.widest (forms_of c.args.parts.now)) c.loop-part.invariant.most in
    let laid = step (λ more. layout.AreLaidOut (forms_of more)) c.loop-part.invariant.laid in
    let new : c.max-most.result ≡ max c.loop-part.most c.align_of.result = c.max-most.ensures ∙ greater_is_max c.loop-part.most c.align_of.result in
    record {
      most = omega (arith, most, new, c.align_of.ensures);
      least = omega (arith, c.loop-part.invariant.least, new);
      laid = laid.1;
    }

pub loop-part-init : goal.loop-part-init
loop-part-init c = record { most = max_widest (forms_of c.args.parts.now); least = omega arith; laid = c.requires.laid }

pub returns : goal.returns
returns c =
    let none = drop_all c.loop-part.part-index c.args.parts.now (omega (arith, c.loop-part-test.false)) in
    omega (arith, c.loop-part.invariant.most, c.loop-part.invariant.least, ap (λ more. layout.widest (forms_of more)) none)
