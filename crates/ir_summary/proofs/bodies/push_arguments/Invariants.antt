use Rattle.std.proofs.Common.{◌≡◌, ◌++◌, drop}
use Rattle.ir_summary.specs.Once.{texts}
use Rattle.ir_summary.specs.References.{all_named}
use Rattle.ir_summary.proofs.bodies.push_arguments.Given as goal

abbrev pub invariant-loop-argument : goal.invariant-loop-argument
invariant-loop-argument l = texts l.names.items ++ all_named (drop l.argument-index l.arguments) ≡ texts l.fn.names.items ++ all_named l.arguments
