use Rattle.ir_meaning.specs.Program.{On}
use Rattle.ir_interp.proofs.Feeding.{fed, not_given, taken_in_vain}
use Rattle.ir_interp.proofs.running.feed.Goals as goal

pub returns-in_default-clause-left : goal.returns-in_default-clause-left
returns-in_default-clause-left g c = λ p s bytes wants is.
    not_given p s bytes (g.I.ByteIn.left c.args.input.now) (g.I.ByteIn.left c.next.new.self) is c.in_default.ensures.byte

pub returns-in-Ok-step-clause-ok : goal.returns-in-Ok-step-clause-ok
returns-in-Ok-step-clause-ok g c = λ names p s runs wants.
    fed names p s (g.I.ByteIn.left c.args.input.now) (g.I.ByteIn.left c.next.new.self) c.step.new.self c.in-Ok.byte c.in-Ok-step.end wants c.in-Ok.ensures.byte (c.in-Ok-step.ensures.ok names p (On s) runs)

pub returns-in-Err-clause-left : goal.returns-in-Err-clause-left
returns-in-Err-clause-left g c = λ p s bytes wants is.
    taken_in_vain p s bytes (g.I.ByteIn.left c.args.input.now) (g.I.ByteIn.left c.next.new.self) c.in-Ok.byte wants is c.in-Ok.ensures.byte
