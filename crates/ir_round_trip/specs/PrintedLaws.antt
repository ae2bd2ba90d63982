-- What holds of the tokens of a text of bytes, and of the items that they spell.
use Rattle.std.specs.Prelude.{ℕ, List}
use Rattle.std.specs.List.{AllByRecursion as Each}
use Rattle.ir_parse.specs.Modules.{whole_module}
use Rattle.ir_lex.specs.Lexing.{AreTokens}
use Rattle.ir_lex.specs.Quotes.{content}
use Rattle.ir_lex.specs.Tok.{Tok}
use Rattle.ir_lex.specs.declared.token.TokenForm.{TokenForm}
use Rattle.ir_parse_parts.specs.declared.raw.Item.{Item}
use Rattle.ir_tree.specs.Names.{AllBytes}
use Rattle.ir_round_trip.specs.Spelled.{ItemsSpelled}
use Rattle.ir_round_trip.specs.Tokens.{IsCut}

abbrev pub ContentsAreBytes : Type 0
ContentsAreBytes = (kind : TokenForm) (text : List ℕ) → AllBytes text → AllBytes (content kind text)

abbrev pub TokensAreCut : Type 0
TokensAreCut = (bytes : List ℕ) (ts : List Tok) → AllBytes bytes → AreTokens bytes ts → Each IsCut ts

abbrev pub ItemsAreWithin : Type 0
ItemsAreWithin = (ts : List Tok) (is : List Item) → Each IsCut ts → whole_module ts is → ItemsSpelled is
