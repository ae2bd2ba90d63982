use Rattle.std.proofs.Common.{refl, sym, ◌∙◌}
use Rattle.ir_parse_bodies.proofs.CallReadings.{marker_comes, no_marker_comes}
use Rattle.ir_parse_bodies.specs.CallsAt.{marker_at}
use Rattle.ir_parse_bodies.proofs.Successions.{reads_behind, returns_as}
use Rattle.ir_parse_bodies.proofs.calls.callee_at.Goals as goal

pub returns-in_ok-expect : goal.returns-in_ok-expect
unfolding marker_at
returns-in_ok-expect c = marker_comes c.args.named c.args.reg c.args.tokens.now (sym c.if-is_some.ensures) c.if-named.false (sym c.if-comes.ensures) ∙ reads_behind c.in_ok-expect.ensures _ refl

pub returns-else-comes : goal.returns-else-comes
unfolding marker_at
returns-else-comes c = returns_as (no_marker_comes c.args.named c.args.reg c.args.tokens.now (sym c.if-is_some.ensures) c.if-named.false (sym c.if-comes.ensures)) _ _ c.called_value_at-else-comes.ensures
