use Rattle.std.proofs.Common.{◌≡◌, ◌++◌, drop}
use Rattle.ir_lex.specs.Pieces.{bytes_of}
use Rattle.ir_print.specs.Functions as functions
use Rattle.ir_print.proofs.function.put_params.Given as goal

abbrev pub invariant-each : goal.invariant-each
invariant-each l = l.out.items ++ bytes_of (functions.further_params (drop l.p-index l.rest)) ≡ l.fn.out.items ++ bytes_of (functions.params l.fn.list)
