-- What the readers of metadata give.
use Rattle.std.specs.Prelude.{ℕ, Bool, true, false, List, [], ◌∷◌}
use Rattle.ir_lex.specs.declared.token_kind.TokenKind.TheVariants as kinds
use Rattle.ir_lex.specs.TokenKinds.{number}
use Rattle.ir_lex.specs.Tok.{Tok}
use Rattle.ir_parse_parts.specs.Alphabet.{among}
use Rattle.ir_parse_parts.specs.Readers.{Reader, ◌>>=◌, done, pick, star_at, optional_at}
use Rattle.ir_parse_parts.specs.Runs.{run_at}
use Rattle.ir_parse_parts.specs.Brackets.{group_at}
use Rattle.ir_parse_parts.specs.Classes.{tokens, the_at, one_of_at}
use Rattle.ir_parse_parts.specs.Metadata.{META, line_step, ends_line}
use Rattle.ir_parse_parts.specs.declared.brackets.Bracket.TheVariants.{Paren, Curly}

abbrev pub PAREN : List ℕ
PAREN = number kinds.OpenParen ∷ []

abbrev pub CURLY : List ℕ
CURLY = number kinds.OpenBrace ∷ []

abbrev pub NAMED : List ℕ
NAMED = number kinds.Meta ∷ []

abbrev pub COMMA : List ℕ
COMMA = number kinds.Comma ∷ []

unfoldable pub node_at : Reader Tok (Unit {0})
node_at = pick (among tokens NAMED)
    (do
      _ ← the_at kinds.Meta
      _ ← optional_at (among tokens PAREN) (group_at Paren)
      done tt)
    (do
      _ ← the_at kinds.Bang
      pick (among tokens CURLY) (group_at Curly) (group_at Paren))

unfoldable pub attached_at : Reader Tok (Unit {0})
attached_at = do
  _ ← one_of_at META ends_line
  node_at

unfoldable pub attachment_at : Reader Tok (Unit {0})
attachment_at = do
  _ ← the_at kinds.Comma
  attached_at

unfoldable pub attachments_at : Reader Tok (Unit {0})
attachments_at = do
  _ ← star_at (among tokens COMMA) attachment_at
  done tt

abbrev pub rest_of_line_at : Bool → Reader Tok (Unit {0})
rest_of_line_at true = done tt
rest_of_line_at false = run_at line_step []

unfoldable pub metadata_line_at : Reader Tok (Unit {0})
metadata_line_at = do
  ends ← one_of_at META ends_line
  rest_of_line_at ends
