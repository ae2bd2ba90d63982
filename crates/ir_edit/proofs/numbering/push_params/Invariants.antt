use Rattle.std.proofs.Common.{◌≡◌, ◌++◌, drop}
use Rattle.ir_edit.specs.Numbered.{param_numbers}
use Rattle.ir_edit.proofs.numbering.push_params.Given as goal

abbrev pub invariant-loop-param : goal.invariant-loop-param
invariant-loop-param l = l.numbers.items ++ param_numbers (drop l.param-index l.params) ≡ l.fn.numbers.items ++ param_numbers l.params
