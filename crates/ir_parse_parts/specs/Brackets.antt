-- Groups in brackets: each closes by its own kind; `<` and `>` are no brackets.
use Rattle.std.specs.Prelude.{Bool, true, false, [], ◌∷◌}
use Rattle.ir_lex.specs.declared.token_kind.TokenKind.TheVariants as kinds
use Rattle.ir_lex.specs.declared.token_kind.TokenKind.{TokenKind}
use Rattle.ir_lex.specs.Tok.{Tok}
use Rattle.ir_parse_parts.specs.Balanced as balanced
use Rattle.ir_parse_parts.specs.Balanced.{Brackets, Closing, closing_at, Move}
use Rattle.ir_parse_parts.specs.Forms as form
use Rattle.ir_parse_parts.specs.Forms.{Form}
use Rattle.ir_parse_parts.specs.Readers as reader
use Rattle.ir_parse_parts.specs.Readers.{Reader}
use Rattle.ir_parse_parts.specs.Classes.{the, the_at}
use Rattle.ir_parse_parts.specs.declared.brackets.Bracket.{Bracket}
use Rattle.ir_parse_parts.specs.declared.brackets.Bracket.TheVariants.{Paren, Square, Curly}

abbrev pub opening : Bracket → TokenKind
opening Paren = kinds.OpenParen
opening Square = kinds.OpenBracket
opening Curly = kinds.OpenBrace

abbrev pub move_of : TokenKind → Move Bracket
move_of kinds.OpenParen = balanced.opens Paren
move_of kinds.OpenBracket = balanced.opens Square
move_of kinds.OpenBrace = balanced.opens Curly
move_of kinds.CloseParen = balanced.closes Paren
move_of kinds.CloseBracket = balanced.closes Square
move_of kinds.CloseBrace = balanced.closes Curly
move_of h = balanced.stays

abbrev pub same : Bracket → Bracket → Bool
same Paren Paren = true
same Square Square = true
same Curly Curly = true
same a b = false

abbrev pub brackets : Brackets Tok Bracket
brackets = record { move = λ t. move_of t.kind; same = same }

-- a bracket, what stands in it, and what closes it
unfoldable pub group : Bracket → Form Tok (Unit {0})
group b = form.◌>>=◌ (the (opening b)) (λ _. Closing brackets (b ∷ []))

unfoldable pub group_at : Bracket → Reader Tok (Unit {0})
group_at b = reader.◌>>=◌ (the_at (opening b)) (λ _. closing_at brackets (b ∷ []))
