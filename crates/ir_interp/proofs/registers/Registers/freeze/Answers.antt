use Rattle.ir_meaning.specs.Operate as operate
use Rattle.ir_tree.specs.declared.operand.Reg.TheVariants.{Int}
use Rattle.ir_machine.specs.Meant.{meant}
use Rattle.ir_interp.proofs.Plain.{plain_frozen, plain_valid}
use Rattle.ir_interp.proofs.registers.Registers.freeze.Goals as goal

pub returns-in-Int-clause-valid : goal.returns-in-Int-clause-valid
returns-in-Int-clause-valid c = λ names m memory.
    plain_valid names m memory c.freeze.result
    (operate.frozen (Int c.in-Int.width) c.args.choice (meant names c.value-value.result))
    (c.freeze.ensures names)
    (plain_frozen c.in-Int.width c.args.choice (operate.bits_of c.in-Int.width (meant names c.value-value.result)))
