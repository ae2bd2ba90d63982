use Rattle.std.proofs.Common.{◌≡◌, List, drop}
use Rattle.ir_tree.specs.Initials.{IsFlat}
use Rattle.ir_tree.specs.declared.init_node.InitPart.{InitPart}
use Rattle.ir_parse_names.specs.Resolving.{each}
use Rattle.ir_parse_names.specs.Variables.{part_in}
use Rattle.ir_parse_values.specs.Closing.{finished, tree_in}
use Rattle.ir_parse_values.proofs.Closings.{tree_onto}
use Rattle.ir_parse_values.proofs.initialiser.parts_in.Given as goal

abbrev pub invariant-each : goal.invariant-each
invariant-each l = record {
  rest : tree_onto l.root l.collected (each (part_in l.types l.locals) (drop l.part-index l.parts)) ≡ tree_in l.root (each (part_in l.types l.locals) l.parts);
  flat : (ps : List InitPart) → IsFlat l.root (finished l.collected ps);
}
