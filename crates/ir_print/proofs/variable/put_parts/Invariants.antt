use Rattle.std.proofs.Common.{◌≡◌, ◌++◌, drop}
use Rattle.std.specs.Prelude.{reverse}
use Rattle.ir_lex.specs.Pieces.{bytes_of}
use Rattle.ir_print.specs.Initials as initials
use Rattle.ir_print.proofs.variable.put_parts.Given as goal

abbrev pub invariant-each : goal.invariant-each
invariant-each l = l.out.items ++ bytes_of (initials.parts (reverse l.levels.items) l.is_next_first (drop l.part-index l.parts)) ≡ l.fn.out.items ++ bytes_of (initials.parts (reverse l.fn.levels.items) l.fn.is_first l.fn.parts)
