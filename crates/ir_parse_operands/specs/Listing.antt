-- Instructions that are put where they are read, behind the lines before them.
use Rattle.std.specs.Prelude.{List, [], ◌∷◌, ◌++◌}
use Rattle.ir_lex.specs.Tok.{Tok}
use Rattle.ir_parse_parts.specs.Readers.{Reader, ◌>>=◌, done}
use Rattle.ir_parse_parts.specs.declared.raw.Instr.{Instr}
use Rattle.ir_parse_parts.specs.declared.raw.WrittenLine.{WrittenLine}
use Rattle.ir_parse_operands.specs.declared.listing.Listing.{Listing}

-- the line of an instruction
abbrev pub line_of : Listing → Instr → WrittenLine
line_of l i = record { name = l.name; instr = i; line = l.line }

-- the lines, and that of one more instruction
abbrev pub put : Listing → Instr → List WrittenLine
put l i = l.lines.items ++ line_of l i ∷ []

-- the instruction that is read, put behind the lines
abbrev pub put_at : Listing → Reader Tok Instr → Reader Tok (List WrittenLine)
put_at l f = do
  i ← f
  done (put l i)
