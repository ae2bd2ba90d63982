use Rattle.std.proofs.Common.{◌≡◌, ◌++◌, All, drop, take}
use Rattle.std.specs.List.{flat_map}
use Rattle.ir_summary.specs.Once.{texts}
use Rattle.ir_tree.specs.Names.{AllBytes}
use Rattle.lto_task.specs.Units.{name_line}
use Rattle.lto_task.proofs.task_writing.push_borrowed_names.Given as goal

abbrev pub invariant-loop-name : goal.invariant-loop-name
invariant-loop-name l = record {
  wrote : l.out ++ flat_map name_line (texts (drop l.name-index l.names)) ≡ l.fn.out ++ flat_map name_line (texts l.names);
  bytes : All (λ n. AllBytes n.now) (take l.name-index l.names);
}
