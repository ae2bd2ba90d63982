use Rattle.std.proofs.Common.{◌≡◌, ◌++◌, List, length, drop}
use Rattle.std.specs.List.{flat_map}
use Rattle.emit.specs.Graphs.{Edge, Linked, edges_of}
use Rattle.emit.proofs.graph.Graph.link_pieces.Given as goal

abbrev pub invariant-loop-piece : goal.invariant-loop-piece
invariant-loop-piece l = record {
  long : length l.self.rows.items ≡ length l.self.names.keys;
  linked : (es : List Edge) → Linked es l.fn.self.names.keys l.fn.self.rows.items
      → (done : List Edge) × (done ++ flat_map edges_of (drop l.piece-index l.pieces) ≡ es ++ flat_map edges_of l.pieces) × Linked done l.self.names.keys l.self.rows.items;
}
