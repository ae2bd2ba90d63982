use Rattle.std.proofs.Common.{◌≡◌, ◌++◌, drop}
use Rattle.ir_parse_names.specs.TypeNames.{graph_from, graph_of}
use Rattle.ir_parse_stages.proofs.name_graph.graph_of.Given as goal

abbrev pub invariant-each : goal.invariant-each
invariant-each l = l.graph ++ graph_from l.types (drop l.place l.types) ≡ graph_of l.types
