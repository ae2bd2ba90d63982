use Rattle.std.proofs.Common.{◌≡◌, drop}
use Rattle.run_program.specs.Starting.{arguments}
use Rattle.run_program.proofs.Taking.{behind}
use Rattle.run_program.proofs.given.arguments.Given as goal

abbrev pub invariant-loop-place : goal.invariant-loop-place
invariant-loop-place l = behind l.numbers (arguments (drop l.place l.params) (drop l.place l.given)) ≡ arguments l.params l.given
