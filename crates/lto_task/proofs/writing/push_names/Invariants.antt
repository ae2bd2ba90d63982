use Rattle.std.proofs.Common.{◌≡◌, ◌++◌, All, drop, take}
use Rattle.std.specs.List.{flat_map}
use Rattle.ir_tree.specs.Names.{AllBytes}
use Rattle.lto_task.specs.Units.{name_line}
use Rattle.lto_task.proofs.writing.push_names.Given as goal

abbrev pub invariant-loop-name : goal.invariant-loop-name
invariant-loop-name l = record {
  wrote : l.out ++ flat_map name_line (drop l.name-index l.names) ≡ l.fn.out ++ flat_map name_line l.names;
  bytes : All AllBytes (take l.name-index l.names);
}
