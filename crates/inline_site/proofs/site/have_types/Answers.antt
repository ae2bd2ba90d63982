use Rattle.std.proofs.Common.{arith}
use Rattle.inline_site.proofs.Types.{types_at, types_more}
use Rattle.inline_site.proofs.site.have_types.Goals as goal

pub loop-place-preserved : goal.loop-place-preserved
loop-place-preserved c =
    types_more c.args.arguments.now c.args.params.now c.loop-place.place _ _ (omega (arith, c.if-arguments-params.false, c.loop-place-test.true)) c.loop-place-test.true (c.if-not-is_same_type.ensures.0 (search arith))
    c.loop-place.invariant

pub returns-then-not-is_same_type : goal.returns-then-not-is_same_type
returns-then-not-is_same_type c = (
  λ e. absurd (cc e),
  λ h. c.if-not-is_same_type.ensures.1 (types_at c.args.arguments.now c.args.params.now c.loop-place.place _ _ h (omega (arith, c.if-arguments-params.false, c.loop-place-test.true)) c.loop-place-test.true),
)
