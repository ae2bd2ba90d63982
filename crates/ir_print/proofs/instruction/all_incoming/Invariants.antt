use Rattle.std.proofs.Common.{◌≡◌, ◌++◌, drop}
use Rattle.ir_lex.specs.Pieces.{bytes_of}
use Rattle.ir_print.specs.Instructions as instructions
use Rattle.ir_print.proofs.instruction.all_incoming.Given as goal

abbrev pub invariant-each : goal.invariant-each
invariant-each l = l.out.items ++ bytes_of (instructions.further_incoming (drop l.i-index l.rest)) ≡ l.fn.out.items ++ bytes_of (instructions.all_incoming l.fn.list)
