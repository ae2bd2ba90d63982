use Rattle.ir_meaning.proofs.Verified.{verified_runnable}
use Rattle.ir_meaning.proofs.program_laws.verified_is_runnable.Goals as goal

pub returns : goal.returns
returns c = verified_runnable
