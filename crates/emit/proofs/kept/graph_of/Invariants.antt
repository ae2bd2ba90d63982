use Rattle.std.proofs.Common.{◌≡◌, ◌++◌, List, length, drop}
use Rattle.std.specs.List.{flat_map}
use Rattle.emit.specs.Graphs.{Edge, Linked, edges}
use Rattle.emit.proofs.kept.graph_of.Given as goal

abbrev pub invariant-loop-unit : goal.invariant-loop-unit
invariant-loop-unit l = record {
  long : length l.graph.rows.items ≡ length l.graph.names.keys;
  linked : (done : List Edge) × (done ++ flat_map edges (drop l.unit-index l.units) ≡ flat_map edges l.units) × Linked done l.graph.names.keys l.graph.rows.items;
}
