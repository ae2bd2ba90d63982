use Rattle.std.proofs.Common.{refl}
use Rattle.ir_parse_bodies.specs.InstructionsAt.{extending_at}
use Rattle.ir_parse_bodies.proofs.Successions.{passed_on, reads_behind, returns_within}
use Rattle.ir_parse_operands.proofs.Additions.{first_fails}
use Rattle.ir_parse_bodies.proofs.instructions.extending_into.Goals as goal

pub returns : goal.returns
unfolding extending_at
returns c = returns_within (reads_behind c.in_ok-maybe_at.ensures _ refl) _ _ _ c.casting_into.ensures

pub returns-in_err-maybe_at : goal.returns-in_err-maybe_at
unfolding extending_at
returns-in_err-maybe_at c = passed_on _ _ _ _ c.from_residual.ensures (first_fails _ _ _ (first_fails _ _ _ c.in_err-maybe_at.ensures))
