use Rattle.std.proofs.Common.{refl}
use Rattle.ir_parse_bodies.specs.InstructionsAt.{narrowing_at}
use Rattle.ir_parse_bodies.proofs.Successions.{passed_on, reads_behind, returns_within}
use Rattle.ir_parse_operands.proofs.Additions.{first_fails}
use Rattle.ir_parse_bodies.proofs.instructions.narrowing_into.Goals as goal

pub returns : goal.returns
unfolding narrowing_at
returns c = returns_within (reads_behind c.in_ok-wraps_at.ensures _ refl) _ _ _ c.casting_into.ensures

pub returns-in_err-wraps_at : goal.returns-in_err-wraps_at
unfolding narrowing_at
returns-in_err-wraps_at c = passed_on _ _ _ _ c.from_residual.ensures (first_fails _ _ _ (first_fails _ _ _ c.in_err-wraps_at.ensures))
