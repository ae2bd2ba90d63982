use Rattle.std.proofs.Common.{ℕ, List}
use Rattle.ir_flow.specs.Chained.{AreChains, AreRows}
use Rattle.ir_flow.proofs.chains.Chains.rows.Given as goal

abbrev pub invariant-loop-head : goal.invariant-loop-head
invariant-loop-head l = (lists : ℕ → List ℕ) → AreChains l.self.links.items l.self.heads.items lists → AreRows l.head-index lists l.rows
