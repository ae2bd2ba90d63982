use Rattle.std.proofs.Common.{◌≡◌, ◌++◌, drop}
use Rattle.ir_lex.specs.Pieces.{bytes_of}
use Rattle.ir_print.specs.Instructions as instructions
use Rattle.ir_print.proofs.instruction.put_lines.Given as goal

abbrev pub invariant-each : goal.invariant-each
invariant-each l = l.out.items ++ bytes_of (instructions.lines (drop l.l-index l.list)) ≡ l.fn.out.items ++ bytes_of (instructions.lines l.fn.list)
