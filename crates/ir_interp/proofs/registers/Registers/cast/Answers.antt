use Rattle.ir_meaning.specs.Operate as operate
use Rattle.ir_tree.specs.declared.operand.Reg.TheVariants.{Int}
use Rattle.ir_machine.specs.Meant.{meant}
use Rattle.ir_interp.proofs.Plain.{plain_cast, plain_valid}
use Rattle.ir_interp.proofs.registers.Registers.cast.Goals as goal

pub returns-in-Int-Int-clause-valid : goal.returns-in-Int-Int-clause-valid
returns-in-Int-Int-clause-valid c = λ names m memory.
    plain_valid names m memory c.cast.result
    (operate.cast c.args.op (Int c.in-Int-Int.from) (Int c.in-Int-Int.to) (meant names c.value-value.result))
    (c.cast.ensures names)
    (plain_cast c.args.op c.in-Int-Int.from c.in-Int-Int.to (operate.bits_of c.in-Int-Int.from (meant names c.value-value.result)))
