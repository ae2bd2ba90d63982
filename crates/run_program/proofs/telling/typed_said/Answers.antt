use Rattle.std.proofs.Common.{Option, subst}
use Rattle.ir_tree.specs.declared.operand.Reg.{Reg}
use Rattle.run_program.specs.Arguments.{IsGiven, IsTyped}
use Rattle.run_program.proofs.telling.typed_said.Goals as goal

pub bits_said-requires : goal.bits_said-requires
bits_said-requires c = subst (λ (r : Reg). IsTyped r) c.in-Int.is (subst (λ (o : Option Reg). IsGiven o) c.in-Some.is c.requires)
