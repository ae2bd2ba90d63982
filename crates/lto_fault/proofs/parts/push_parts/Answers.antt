use Rattle.std.proofs.Common.{subst, sym, arith}
use Rattle.std.specs.Io.KnownBytes.{Appends}
use Rattle.lto_fault.proofs.Pushing.{joined-more, joined-split, stopped_within, appends_both}
use Rattle.lto_fault.proofs.parts.push_parts.Goals as goal

pub returns-then-not-push_all-clause-pushed : goal.returns-then-not-push_all-clause-pushed
returns-then-not-push_all-clause-pushed g c =
    stopped_within _ _ _ _ _ _ _ _ _ _ c.loop-part.invariant.sent c.loop-part.invariant.later c.if-not-push_all.ensures.pushed (joined-split c.args.parts.now c.loop-part.part-index _ c.loop-part-test.true)

pub loop-part-preserved : goal.loop-part-preserved
loop-part-preserved g c = record {
  sent = subst (λ l. Appends (g.N.ByteOut.sent c.args.out.now) (g.N.ByteOut.sent c.push_all.new.out) l) (sym (joined-more c.args.parts.now c.loop-part.part-index _ c.loop-part-test.true)) (appends_both _ _ _ _ _ c.loop-part.invariant.sent c.if-not-push_all.ensures.pushed);
  later = omega (arith, c.loop-part.invariant.later, c.push_all.ensures.later);
}
