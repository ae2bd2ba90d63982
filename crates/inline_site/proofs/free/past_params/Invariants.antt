use Rattle.std.proofs.Common.{◌≡◌, max, drop}
use Rattle.ir_tree.specs.Flow.{room}
use Rattle.ir_edit.specs.Numbered.{param_numbers}
use Rattle.inline_site.proofs.free.past_params.Given as goal

abbrev pub invariant-loop-param : goal.invariant-loop-param
invariant-loop-param l = max l.free (room (param_numbers (drop l.param-index l.params))) ≡ max l.initial.free (room (param_numbers l.params))
