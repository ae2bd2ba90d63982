use Rattle.std.proofs.Common.{◌≡◌, ◌++◌, drop}
use Rattle.ir_print.specs.Modules.{global_values, text_of}
use Rattle.lto_task.proofs.task_writing.push_declared.Given as goal

abbrev pub invariant-loop-global : goal.invariant-loop-global
invariant-loop-global l = l.out ++ text_of (global_values (drop l.global-index l.declared)) ≡ l.fn.out ++ text_of (global_values l.declared)
