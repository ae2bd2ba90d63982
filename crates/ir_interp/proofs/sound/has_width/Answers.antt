use Rattle.std.proofs.Common.{refl}
use Rattle.ir_machine.specs.Marks.{HasWidth}
use Rattle.ir_interp.proofs.Runnable.{same_claim}
use Rattle.ir_interp.proofs.sound.has_width.Goals as goal

pub returns-in-Int : goal.returns-in-Int
returns-in-Int c = same_claim HasWidth c.args.reg _ c.in-Int.is c.is_width.ensures

pub returns-in-Ptr : goal.returns-in-Ptr
returns-in-Ptr c = same_claim HasWidth c.args.reg _ c.in-Ptr.is (λ e. tt, λ h. refl)
