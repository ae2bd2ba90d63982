use Rattle.std.proofs.Common.{refl}
use Rattle.ir_parse_bodies.specs.InstructionsAt.{wrapping_at}
use Rattle.ir_parse_bodies.proofs.Successions.{passed_on, reads_behind, returns_within}
use Rattle.ir_parse_operands.proofs.Additions.{first_fails}
use Rattle.ir_parse_bodies.proofs.instructions.wrapping_into.Goals as goal

pub returns : goal.returns
unfolding wrapping_at
returns c = returns_within (reads_behind c.in_ok-flags.ensures _ refl) _ _ _ c.on_two_into.ensures

pub returns-in_err-flags : goal.returns-in_err-flags
unfolding wrapping_at
returns-in_err-flags c = passed_on _ _ _ _ c.from_residual.ensures (first_fails _ _ _ (first_fails _ _ _ c.in_err-flags.ensures))
