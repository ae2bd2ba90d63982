use Rattle.std.proofs.lemmas.Result.{IfOk-weaker}
use Rattle.back_end.proofs.Turning.{idle_turns, three}
use Rattle.back_end.proofs.passes.turns.Goals as goal

pub returns-then-not-changed : goal.returns-then-not-changed
returns-then-not-changed c = idle_turns 2 c.args.f c.in_ok-once.once (c.in_ok-once.ensures.same c.if-not-changed.true) c.in_ok-once.ensures.made

pub returns : goal.returns
returns c = IfOk-weaker c.two_turns.result _ _ (λ g rest. three c.args.f c.in_ok-once.once g c.in_ok-once.ensures.made rest) c.two_turns.ensures
