use Rattle.std.proofs.Common.{◌≡◌, List, length, take}
use Rattle.emit.specs.Graphs.{AreStarts, Edge, Linked}
use Rattle.emit.proofs.graph.Graph.numbers_of.Given as goal

abbrev pub invariant-loop-name : goal.invariant-loop-name
invariant-loop-name l = record {
  long : length l.self.rows.items ≡ length l.self.names.keys;
  starts : AreStarts l.self.names.keys (take l.name-index l.names) l.numbers.items;
  linked : (es : List Edge) → Linked es l.fn.self.names.keys l.fn.self.rows.items → Linked es l.self.names.keys l.self.rows.items;
}
