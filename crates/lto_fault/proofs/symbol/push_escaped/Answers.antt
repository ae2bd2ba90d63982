use Rattle.std.proofs.Common.{subst, sym, arith}
use Rattle.std.specs.Io.KnownBytes.{Appends}
use Rattle.lto_fault.proofs.Pushing.{stopped_within, appends_both}
use Rattle.lto_fault.proofs.Escaping.{escaped-more, escaped-split}
use Rattle.lto_fault.proofs.symbol.push_escaped.Goals as goal

pub returns-then-not-push_escape-clause-pushed : goal.returns-then-not-push_escape-clause-pushed
returns-then-not-push_escape-clause-pushed g c =
    stopped_within _ _ _ _ _ _ _ _ _ _ c.loop-byte.invariant.sent c.loop-byte.invariant.later c.if-not-push_escape.ensures.pushed (escaped-split c.args.name.now c.loop-byte.byte-index 0 c.loop-byte-test.true)

pub loop-byte-preserved : goal.loop-byte-preserved
loop-byte-preserved g c = record {
  sent = subst (λ l. Appends (g.N.ByteOut.sent c.args.out.now) (g.N.ByteOut.sent c.push_escape.new.out) l) (sym (escaped-more c.args.name.now c.loop-byte.byte-index 0 c.loop-byte-test.true)) (appends_both _ _ _ _ _ c.loop-byte.invariant.sent c.if-not-push_escape.ensures.pushed);
  later = omega (arith, c.loop-byte.invariant.later, c.push_escape.ensures.later);
}
