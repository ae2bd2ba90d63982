use Rattle.std.proofs.Common.{◌≡◌, ◌++◌, ℕ, List, length, drop}
use Rattle.ir_tree.specs.Flow.{repeated}
use Rattle.ir_flow.specs.Chained.{AreChains}
use Rattle.ir_flow.proofs.chains.Chains.lead.Given as goal

abbrev pub invariant-loop-i : goal.invariant-loop-i
invariant-loop-i l = record {
  limit : length l.self.heads.items ≡ length l.initial.self.heads.items;
  lists : (lists : ℕ → List ℕ) → AreChains l.initial.self.links.items l.initial.self.heads.items lists → AreChains l.self.links.items l.self.heads.items (λ k. repeated l.value k (drop l.i l.keys) ++ lists k);
}
