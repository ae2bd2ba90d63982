-- The types of parameters and arguments.
use Rattle.std.specs.Prelude.{List, map}
use Rattle.ir_tree.specs.declared.function.Param.{Param}
use Rattle.ir_tree.specs.declared.operand.Argument.{Argument}
use Rattle.ir_tree.specs.declared.operand.Reg.{Reg}

abbrev pub param_types : List Param → List Reg
param_types params = map (λ p. p.reg) params

abbrev pub argument_types : List Argument → List Reg
argument_types arguments = map (λ a. a.reg) arguments
