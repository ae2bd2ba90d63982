use Rattle.std.proofs.Common.{◌≡◌, ◌++◌, drop}
use Rattle.promotable_slots.specs.Uses.{argument_uses}
use Rattle.promotable_slots.proofs.uses.push_arguments.Given as goal

abbrev pub invariant-loop-argument : goal.invariant-loop-argument
invariant-loop-argument l = l.uses.items ++ argument_uses (drop l.argument-index l.arguments) ≡ l.fn.uses.items ++ argument_uses l.arguments
