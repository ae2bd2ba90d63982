use Rattle.std.proofs.Common.{◌≡◌, ◌++◌, drop}
use Rattle.ir_lex.specs.Pieces.{bytes_of}
use Rattle.ir_print.specs.Blocks as blocks
use Rattle.ir_print.proofs.block.put_cases.Given as goal

abbrev pub invariant-each : goal.invariant-each
invariant-each l = l.out.items ++ bytes_of (blocks.cases (drop l.c-index l.list)) ≡ l.fn.out.items ++ bytes_of (blocks.cases l.fn.list)
