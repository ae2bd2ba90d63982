use Rattle.std.proofs.Common.{◌≡◌, ℕ, ◌-◌, length, get_or, suc}
use Rattle.std.specs.Prelude.{None}
use Rattle.ir_verify.proofs.table.Table.grow.Given as goal

abbrev pub decreases-loop-self : goal.decreases-loop-self
decreases-loop-self g l = suc l.number - length l.self.entries.items

abbrev pub invariant-loop-self : goal.invariant-loop-self
invariant-loop-self g l = (x : ℕ) → get_or l.self.entries.items x None ≡ get_or l.fn.self.entries.items x None
