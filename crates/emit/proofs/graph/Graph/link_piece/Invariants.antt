use Rattle.std.proofs.Common.{◌≡◌, ◌++◌, List, length, drop}
use Rattle.std.specs.List.{flat_map}
use Rattle.emit.specs.Graphs.{Edge, Linked, edge}
use Rattle.emit.proofs.graph.Graph.link_piece.Given as goal

abbrev pub invariant-loop-to : goal.invariant-loop-to
invariant-loop-to l = record {
  long : length l.self.rows.items ≡ length l.self.names.keys;
  linked : (es : List Edge) → Linked es l.fn.self.names.keys l.fn.self.rows.items
      → (done : List Edge) × (done ++ flat_map (edge l.from) (drop l.to-index l.refs) ≡ es ++ flat_map (edge l.from) l.refs) × Linked done l.self.names.keys l.self.rows.items;
}
