use Rattle.std.proofs.Common.{arith}
use Rattle.lto_words.proofs.Naming.{all_named, one_more_copied, one_more_named, one_unnamed}
use Rattle.lto_words.proofs.listing.names.Goals as goal

pub returns-in_default : goal.returns-in_default
returns-in_default c = one_unnamed c.args.parts.now c.loop-part.part-index _ c.loop-part-test.true (rw c.in_default.is at c.in_ok-name.ensures)

pub returns : goal.returns
returns c = all_named c.args.parts.now c.loop-part.names c.loop-part.part-index (omega (arith, c.loop-part-test.false)) c.loop-part.invariant.named c.loop-part.invariant.copied

pub loop-part-preserved : goal.loop-part-preserved
loop-part-preserved c =
    let name = rw c.in-Some.is at c.in_ok-name.ensures in
    record {
      copied = one_more_copied c.args.parts.now c.loop-part.part-index _ c.loop-part.names _ c.in-Some.name c.loop-part-test.true c.loop-part.invariant.copied name.1 c.in_ok-push.ensures.ok;
      named = one_more_named c.args.parts.now c.loop-part.part-index _ c.loop-part-test.true c.loop-part.invariant.named name.0;
    }
