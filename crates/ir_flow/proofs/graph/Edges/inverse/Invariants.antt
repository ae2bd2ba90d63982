use Rattle.std.proofs.Common.{◌≡◌, length, drop}
use Rattle.ir_flow.specs.Chained.{AreChains}
use Rattle.ir_flow.specs.Graph.{gathered}
use Rattle.ir_flow.proofs.graph.Edges.inverse.Given as goal

abbrev pub invariant-loop-place : goal.invariant-loop-place
invariant-loop-place l = record {
  limit : length l.chains.heads.items ≡ l.limit;
  lists : AreChains l.chains.links.items l.chains.heads.items (λ k. gathered k l.place (drop l.place l.self));
}
