use Rattle.std.proofs.Common.{◌≡◌, ◌++◌, drop}
use Rattle.ir_interp.specs.Code.{locals_of}
use Rattle.machine_code.proofs.block.param_registers.Given as goal

abbrev pub invariant-loop-param : goal.invariant-loop-param
invariant-loop-param l = l.all.items ++ locals_of (drop l.param-index l.params) ≡ locals_of l.params
