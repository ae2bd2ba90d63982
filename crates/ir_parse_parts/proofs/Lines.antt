-- Reading the rest of a line of metadata, as a loop does.
use Rattle.std.proofs.Common.{Bool, true, false, List}
use Rattle.ir_lex.specs.Tok.{Tok}
use Rattle.ir_parse_parts.specs.Readers.{Reader, done}
use Rattle.ir_parse_parts.specs.Runs.{run_at}
use Rattle.ir_parse_parts.specs.Metadata.{line_step}
use Rattle.ir_parse_parts.specs.declared.brackets.Bracket.{Bracket}

-- what is still read: nothing where the line has ended
abbrev pub from_here : Bool → List Bracket → Reader Tok (Unit {0})
from_here true open_ones = done tt
from_here false open_ones = run_at line_step open_ones
