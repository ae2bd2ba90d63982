use Rattle.std.proofs.Common.{refl}
use Rattle.ir_parse_bodies.specs.CallsAt.{argument_at}
use Rattle.ir_parse_bodies.proofs.Successions.{passed_on, reads_behind, returns_within}
use Rattle.ir_parse_operands.proofs.Additions.{first_fails}
use Rattle.ir_parse_bodies.proofs.calls.argument_into.Goals as goal

pub returns : goal.returns
unfolding argument_at
returns c = returns_within (reads_behind c.in_ok-reg.ensures.exact _ refl) _ _ _ c.argument_behind_into.ensures

pub returns-in_err-reg : goal.returns-in_err-reg
unfolding argument_at
returns-in_err-reg c = passed_on _ _ _ _ c.from_residual.ensures (first_fails _ _ _ (first_fails _ _ _ c.in_err-reg.ensures.exact))
