use Rattle.std.proofs.Common.{◌≡◌, ◌++◌, drop}
use Rattle.ir_meaning.specs.Programs.{regs_of}
use Rattle.machine_code.proofs.symbol.param_regs.Given as goal

abbrev pub invariant-loop-param : goal.invariant-loop-param
invariant-loop-param l = l.regs.items ++ regs_of (drop l.param-index l.params) ≡ regs_of l.params
