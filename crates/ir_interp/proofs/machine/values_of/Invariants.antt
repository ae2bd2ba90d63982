use Rattle.std.proofs.Common.{◌≡◌, ◌++◌, drop, map}
use Rattle.ir_machine.specs.declared.scalar.Scalar.TheVariants.{Number}
use Rattle.ir_interp.proofs.machine.values_of.Given as goal

abbrev pub invariant-loop-number : goal.invariant-loop-number
invariant-loop-number l = l.values.items ++ map Number (drop l.number-index l.numbers) ≡ map Number l.numbers
