use Rattle.std.proofs.Common.{◌≡◌, ◌++◌, drop}
use Rattle.lto_task.specs.Declarations.{numbered_from}
use Rattle.lto_task.proofs.declaring.numbered.Given as goal

abbrev pub invariant-loop-param : goal.invariant-loop-param
invariant-loop-param l = l.new ++ numbered_from l.local (drop l.param-index l.params) ≡ numbered_from 0 l.params
