use Rattle.std.proofs.Common.{◌≡◌, ◌++◌, length}
use Rattle.std.specs.List.{flat_map}
use Rattle.std.specs.Prelude.{All}
use Rattle.ir_tree.specs.Names.{AllBytes}
use Rattle.lto_task.specs.Units.{name_line}
use Rattle.lto_task.proofs.taking_apart.Reader.names.Given as goal

abbrev pub invariant-loop : goal.invariant-loop
invariant-loop l = record {
  bytes : All AllBytes l.names;
  count : length l.names ≡ l.counter;
  read : l.fn.self.rest.now ≡ flat_map name_line l.names ++ l.self.rest.now;
}
