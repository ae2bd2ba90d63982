-- The tokens of a text of bytes (LangRef, "Identifiers").
use Rattle.std.specs.Prelude.{◌≡◌, ℕ, true, List}
use Rattle.ir_lex.specs.TokenKinds.{number}
use Rattle.ir_lex.specs.Tok.{Tok}
use Rattle.ir_parse_names.specs.Symbols.{symbol_name}
use Rattle.ir_parse_operands.specs.Values.{GLOBAL}
use Rattle.ir_tree.specs.Names.{AllBytes}
use Rattle.ir_parse_parts.specs.Alphabet.{contains}
use Rattle.ir_round_trip.specs.Classes.{IsOrdinary}
use Rattle.ir_round_trip.specs.Printable.{IsName}

abbrev pub OfBytes : Tok → Type 0
OfBytes t = AllBytes t.text

-- a name that can be written: bytes, none of them zero, and not kept for LLVM itself
abbrev pub IsWritable : List ℕ → Type 0
IsWritable name = IsName name × IsOrdinary name

-- a token of bytes; one of a global's class stands for a name that can be written
pub record IsCut (t : Tok) : Type 0 where
  pub bytes : OfBytes t
  pub named : contains GLOBAL (number t.kind) ≡ true → IsWritable (symbol_name t)
