-- Instructions that are put where they are read, but for those that are dropped.
use Rattle.std.specs.Prelude.{Option, List}
use Rattle.ir_lex.specs.Tok.{Tok}
use Rattle.ir_parse_parts.specs.Readers.{Reader, ◌>>=◌, done}
use Rattle.ir_parse_parts.specs.declared.raw.Instr.{Instr}
use Rattle.ir_parse_parts.specs.declared.raw.WrittenLine.{WrittenLine}
use Rattle.ir_parse_operands.specs.declared.listing.Listing.{Listing}
use Rattle.ir_parse_bodies.specs.Adding.{kept_at}
use Rattle.ir_parse_bodies.specs.Blocks.{keep}
use Rattle.ir_parse_bodies.specs.Lines.{lined}

-- the lines, and that of an instruction, unless it is dropped
abbrev pub kept_in : Listing → Option Instr → List WrittenLine
kept_in l i = keep l.lines.items (lined l.name l.line i)

-- the instruction that is read, put behind the lines, unless it is dropped
abbrev pub listed_at : Listing → Reader Tok (Option Instr) → Reader Tok (List WrittenLine)
listed_at l f = kept_at l.lines.items (f >>= λ i. done (lined l.name l.line i))
