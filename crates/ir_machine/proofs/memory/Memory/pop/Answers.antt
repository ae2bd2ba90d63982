use Rattle.std.proofs.Common.{refl, arith}
use Rattle.ir_machine.proofs.Ending.{ended_by, last_popped}
use Rattle.ir_machine.proofs.Origins.{popped_gains}
use Rattle.ir_machine.proofs.memory.Memory.pop.Goals as goal

pub returns-clause-ended : goal.returns-clause-ended
returns-clause-ended c = λ names memory s.
    ended_by names c.args.self.now memory (record { blocks = c.pop.new.self; made = c.args.self.now.made }) c.pop.result s (c.pop.ensures.variant.1 (omega arith)) c.pop.ensures.items refl

pub returns-clause-held : goal.returns-clause-held
returns-clause-held c =
    popped_gains c.args.self.now (record { blocks = c.pop.new.self; made = c.args.self.now.made }) c.pop.result (c.pop.ensures.variant.1 (omega arith)) c.pop.ensures.items

pub returns-clause-last : goal.returns-clause-last
returns-clause-last c =
    last_popped c.args.self.now (record { blocks = c.pop.new.self; made = c.args.self.now.made }) c.pop.result (c.pop.ensures.variant.1 (omega arith)) c.pop.ensures.items
