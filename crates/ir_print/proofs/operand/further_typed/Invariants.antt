use Rattle.std.proofs.Common.{◌≡◌, ◌++◌, drop}
use Rattle.ir_lex.specs.Pieces.{bytes_of}
use Rattle.ir_print.specs.Operands as operands
use Rattle.ir_print.proofs.operand.further_typed.Given as goal

abbrev pub invariant-each : goal.invariant-each
invariant-each l = l.out.items ++ bytes_of (operands.further_typed (drop l.a-index l.list)) ≡ l.fn.out.items ++ bytes_of (operands.further_typed l.fn.list)
