use Rattle.std.proofs.Common.{◌≡◌, ◌++◌, drop}
use Rattle.ir_lex.specs.Pieces.{bytes_of}
use Rattle.ir_print.specs.Blocks as blocks
use Rattle.ir_print.proofs.block.put_blocks.Given as goal

abbrev pub invariant-each : goal.invariant-each
invariant-each l = l.out.items ++ bytes_of (blocks.further_blocks (drop l.b-index l.rest)) ≡ l.fn.out.items ++ bytes_of (blocks.blocks l.fn.list)
