use Rattle.std.proofs.Common.{◌≡◌, ◌++◌, drop}
use Rattle.dead_code.specs.Uses.{edges_uses}
use Rattle.dead_code.proofs.uses.push_edges.Given as goal

abbrev pub invariant-loop-edge : goal.invariant-loop-edge
invariant-loop-edge l = l.uses.items ++ edges_uses l.reader (drop l.edge-index l.edges) ≡ l.fn.uses.items ++ edges_uses l.reader l.edges
