use Rattle.std.proofs.Common.{◌∙◌, refl, arith}
use Rattle.ir_edit.proofs.Placing.{one_placed, all_placed}
use Rattle.ir_edit.proofs.numbering.Numbering.of.Goals as goal

pub loop-number-preserved : goal.loop-number-preserved
loop-number-preserved c = record {
  count = omega (arith, c.loop-number.invariant.count);
  places = λ x. one_placed c.args.numbers.now c.loop-number.number-index c.loop-number.count 0 _ x _ _ c.loop-number-test.true refl (c.in_ok-insert.ensures.updates.0 x) ∙ c.loop-number.invariant.places x;
}

pub returns : goal.returns
returns c = λ x.
    all_placed c.args.numbers.now c.loop-number.number-index c.loop-number.count x _ c.loop-number-test.false (omega (arith, c.loop-number.invariant.count, c.loop-number.auto.number-index-end, c.loop-number-test.false)) (c.loop-number.invariant.places x)
