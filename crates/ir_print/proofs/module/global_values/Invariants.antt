use Rattle.std.proofs.Common.{◌≡◌, ◌++◌, drop}
use Rattle.ir_print.specs.Modules as modules
use Rattle.ir_print.proofs.module.global_values.Given as goal

abbrev pub invariant-each : goal.invariant-each
invariant-each l = l.out.items ++ modules.text_of (modules.global_values (drop l.global-index l.globals)) ≡ l.fn.out.items ++ modules.text_of (modules.global_values l.fn.globals)
