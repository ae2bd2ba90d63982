use Rattle.std.proofs.Common.{◌≡◌, ◌+◌, ◌*◌, drop}
use Rattle.ir_parse_parts.specs.Shapes.{list_of, parts_of}
use Rattle.ir_tree.specs.Forms.{forms_of}
use Rattle.ir_tree.specs.Layout.{AreLaidOut}
use Rattle.ir_parse_names.specs.Resolving.{each}
use Rattle.ir_parse_names.specs.Types.{expand}
use Rattle.ir_parse_names.proofs.Each.{in_front}
use Rattle.ir_parse_names.proofs.expand.+expansion.Given as goal

abbrev pub decreases-expand : goal.decreases-expand
decreases-expand a = 3 * a.nesting

abbrev pub decreases-expand_struct : goal.decreases-expand_struct
decreases-expand_struct a = 3 * a.nesting + 2

abbrev pub decreases-expand_all : goal.decreases-expand_all
decreases-expand_all a = 3 * a.nesting + 1

abbrev pub invariant-expand_all-each : goal.invariant-expand_all-each
invariant-expand_all-each l = record {
  rest : in_front l.out.items (each (expand l.nesting l.types l.line) (drop l.shape-index l.shapes)) ≡ each (expand l.nesting l.types l.line) (list_of (parts_of l.shapes));
  laid : AreLaidOut (forms_of l.out.items);
}
