use Rattle.std.proofs.Common.{◌≡◌, ◌+◌, ◌∷◌, [], ◌∙◌, ap, length, arith, length-append}
use Rattle.slot_promote.specs.Tables.{first_in, place_in}
use Rattle.slot_promote.proofs.Loops.{all_ends, ends_more}
use Rattle.slot_promote.proofs.promotion.block_ends.Goals as goal

pub loop-place-preserved : goal.loop-place-preserved
loop-place-preserved c = record {
  length = let one : length c.push.new.self.items ≡ length c.loop-place.ends.items + 1 = ap length c.in_ok-push.ensures.items ∙ length-append c.loop-place.ends.items (c.in_ok-block_end.field-0 ∷ []) in omega (arith, one, c.loop-place.invariant.length);
  ends =
      ends_more (place_in c.args.slots.now) c.loop-place.ends.items c.push.new.self.items c.in_ok-block_end.field-0 c.args.firsts.now _ c.args.blocks.now c.loop-place.place c.index-blocks-place.result
      c.loop-place.invariant.length c.requires c.loop-place-test.true c.index-blocks-place.is c.in_ok-push.ensures.items c.in_ok-block_end.ensures c.loop-place.invariant.ends;
}

pub returns-clause-ends : goal.returns-clause-ends
returns-clause-ends c =
    all_ends (place_in c.args.slots.now) c.loop-place.ends.items (first_in c.args.firsts.now) c.args.blocks.now c.loop-place.place (omega arith) c.loop-place.invariant.length c.loop-place.invariant.ends
