use Rattle.std.proofs.Common.{refl}
use Rattle.ir_parse_bodies.specs.PhisAt.{further_at}
use Rattle.ir_parse_bodies.proofs.Successions.{passed_on, reads_behind, returns_within}
use Rattle.ir_parse_operands.proofs.Additions.{first_fails}
use Rattle.ir_parse_bodies.proofs.phis.further_into.Goals as goal

pub returns : goal.returns
unfolding further_at
returns c = returns_within (reads_behind c.in_ok-expect.ensures _ refl) _ _ _ c.behind_comma_into.ensures

pub returns-in_err-expect : goal.returns-in_err-expect
unfolding further_at
returns-in_err-expect c = passed_on _ _ _ _ c.from_residual.ensures (first_fails _ _ _ (first_fails _ _ _ c.in_err-expect.ensures))
