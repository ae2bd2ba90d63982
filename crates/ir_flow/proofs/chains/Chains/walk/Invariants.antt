use Rattle.std.proofs.Common.{◌≡◌, ◌≤◌, ◌++◌, ℕ, List, length}
use Rattle.ir_flow.specs.Chained.{IsChain, past}
use Rattle.ir_flow.proofs.chains.Chains.walk.Given as goal

abbrev pub invariant-loop-at : goal.invariant-loop-at
invariant-loop-at l = record {
  inside : past l.at ≤ length l.self.links.items;
  rest : (list : List ℕ) → IsChain l.self.links.items l.fn.head list → (done : List ℕ) × (left : List ℕ) × (done ++ left ≡ list) × (l.row.items ≡ l.initial.row.items ++ done) × IsChain l.self.links.items l.at left;
}

abbrev pub decreases-loop-at : goal.decreases-loop-at
decreases-loop-at l = past l.at
