use Rattle.std.proofs.Common.{ap, ◌∙◌}
use Rattle.ir_meaning.specs.Access as access
use Rattle.ir_meaning.specs.declared.value.Value.{Value as MeantValue}
use Rattle.ir_interp.proofs.Plain.{loaded_valid}
use Rattle.ir_interp.proofs.registers.Registers.load.Goals as goal

pub returns : goal.returns
returns c = λ names meaning locals s a k.
    let address = c.value-address.ensures names c.args.memory.now meaning locals a k in (
      c.load.ensures.value names meaning s.stands address.1.0
          ∙ ap (λ (v : MeantValue). access.load meaning c.args.reg v c.args.align) address.0,
      loaded_valid names c.args.memory.now meaning c.load.result s c.load.ensures.held,
    )
