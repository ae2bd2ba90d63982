use Rattle.std.proofs.Common.{◌≡◌, ◌++◌, drop, map}
use Rattle.ir_print.specs.Modules.{global_values, text_of}
use Rattle.lto_task.proofs.task_writing.push_defined.Given as goal

abbrev pub invariant-loop-global : goal.invariant-loop-global
invariant-loop-global l = l.out ++ text_of (global_values (map (λ g. g.now) (drop l.global-index l.defined))) ≡ l.fn.out ++ text_of (global_values (map (λ g. g.now) l.defined))
