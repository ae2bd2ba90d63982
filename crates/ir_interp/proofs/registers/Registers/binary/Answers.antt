use Rattle.ir_meaning.specs.Operate as operate
use Rattle.ir_machine.specs.Meant.{meant}
use Rattle.ir_interp.proofs.Plain.{plain_binary, plain_outcome}
use Rattle.ir_interp.proofs.registers.Registers.binary.Goals as goal

pub returns-clause-valid : goal.returns-clause-valid
returns-clause-valid c = λ names m memory.
    plain_outcome names m memory c.binary.result
    (operate.binary c.args.op c.args.flags c.args.width (meant names c.value-left.result) (meant names c.value-right.result))
    (c.binary.ensures names)
    (plain_binary c.args.op c.args.flags c.args.width (operate.bits_of c.args.width (meant names c.value-left.result)) (operate.bits_of c.args.width (meant names c.value-right.result)))
