use Rattle.std.proofs.Common.{◌≡◌, ℕ, length, take}
use Rattle.ir_machine.specs.declared.scalar.Scalar.TheVariants.{Poison}
use Rattle.ir_interp.specs.Locals.{register_at}
use Rattle.ir_interp.specs.Entering.{ParamsFit}
use Rattle.ir_interp.proofs.entry.unwritten.Given as goal

abbrev pub invariant-loop-param : goal.invariant-loop-param
invariant-loop-param l = record {
  unwritten : (x : ℕ) → register_at l.registers x ≡ Poison;
  room : ParamsFit (length l.registers.cells.items) (take l.param-index l.params);
}
