use Rattle.std.proofs.Common.{Option, Some, None, sym, subst}
use Rattle.ir_tree.specs.declared.block.Terminator.TheVariants as end
use Rattle.ir_tree.specs.declared.operand.Argument.{Argument}
use Rattle.ir_interp.specs.declared.exit.Exit.TheVariants as exit
use Rattle.machine_code.specs.Blocks.{IsExit}
use Rattle.machine_code.proofs.Leaving.{none_returned, one_returned}
use Rattle.machine_code.proofs.addresses.Addresses.answer.Goals as goal

pub returns-in-Some : goal.returns-in-Some
returns-in-Some c = λ blocks.
    subst (λ (a : Option Argument). IsExit c.args.self.now blocks (end.Return a) (exit.Return (Some c.source.result))) (sym c.in-Some.is)
    (one_returned c.args.self.now blocks c.in-Some.argument c.source.result c.source.ensures)

pub returns-in-None : goal.returns-in-None
returns-in-None c = λ blocks.
    subst (λ (a : Option Argument). IsExit c.args.self.now blocks (end.Return a) (exit.Return None)) (sym c.in-None.is) (none_returned c.args.self.now blocks)
