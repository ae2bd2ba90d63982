use Rattle.std.proofs.Common.{◌≡◌, ◌++◌, drop}
use Rattle.dead_code.specs.Uses.{arguments_uses}
use Rattle.dead_code.proofs.uses.push_arguments.Given as goal

abbrev pub invariant-loop-argument : goal.invariant-loop-argument
invariant-loop-argument l = l.uses.items ++ arguments_uses l.reader (drop l.argument-index l.arguments) ≡ l.fn.uses.items ++ arguments_uses l.reader l.arguments
