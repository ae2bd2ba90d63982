use Rattle.std.proofs.Common.{◌<◌, Bool, List, length, ap, ◌∙◌, arith, refl, false}
use Rattle.std.proofs.lemmas.List.{length-set, length-replicate}
use Rattle.lto_sets.specs.Sets.{contains}
use Rattle.ir_facts.proofs.Marks.{all_marked, mark_put}
use Rattle.ir_facts.proofs.points.bits_of.Goals as goal

pub loop-place-preserved : goal.loop-place-preserved
loop-place-preserved c =
    let bits = c.loop-place.bits in
    let marks = c.args.marks.now in
    let place = c.loop-place.place in
    let mark = contains marks place in
    let inside : place < length bits = omega (arith, c.loop-place-test.true, c.loop-place.invariant.sized) in
    record {
      sized = ap length c.put.ensures ∙ length-set bits place mark ∙ c.loop-place.invariant.sized;
      done = λ k lt. ap (λ (s : List Bool). contains s k) c.put.ensures ∙ mark_put bits marks place mark inside c.loop-place.invariant.done refl k lt;
    }

pub returns : goal.returns
returns c =
    all_marked c.loop-place.bits c.args.marks.now c.loop-place.invariant.sized
    (λ k lt. c.loop-place.invariant.done k (omega (arith, lt, c.loop-place-test.false)))

pub loop-place-init : goal.loop-place-init
loop-place-init c = record {
  sized = ap length c.in_ok-bits.ensures ∙ length-replicate (length c.args.marks.now) false;
  done = λ k lt. absurd (omega (arith, lt));
}
