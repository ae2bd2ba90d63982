use Rattle.ir_machine.proofs.Origins.{loaded_from}
use Rattle.ir_machine.proofs.memory.Memory.load.Goals as goal

pub returns-in-Some-clause-held : goal.returns-in-Some-clause-held
returns-in-Some-clause-held c =
    loaded_from c.args.self.now c.in-Block.handle.position c.in-Some.block.now c.load.result c.in-Some.ensures.some.0 c.load.ensures.held
