-- What the readers of metadata behind a declaration's head give.
use Rattle.std.specs.Prelude.{ℕ, Bool, true, false, List, [], ◌∷◌}
use Rattle.ir_lex.specs.declared.token_kind.TokenKind.TheVariants as kinds
use Rattle.ir_lex.specs.TokenKinds.{number}
use Rattle.ir_lex.specs.Tok.{Tok}
use Rattle.ir_parse_parts.specs.Alphabet.{among}
use Rattle.ir_parse_parts.specs.Readers.{Reader, ◌>>=◌, done, pick, optional_at, token_at}
use Rattle.ir_parse_parts.specs.Runs.{Step, bad, last, onward, run_at}
use Rattle.ir_parse_parts.specs.Brackets.{group_at}
use Rattle.ir_parse_parts.specs.Classes.{tokens, the_at, one_of_at}
use Rattle.ir_parse_parts.specs.declared.brackets.Bracket.{Bracket}
use Rattle.ir_parse_parts.specs.declared.brackets.Bracket.TheVariants.{Paren, Curly}
use Rattle.ir_parse_parts.specs.declared.places.Before.{Before}
use Rattle.ir_parse_parts.specs.declared.places.Before.TheVariants as befores
use Rattle.ir_parse_parts.specs.Metadata.{META, ends_line, line_step}
use Rattle.ir_parse_parts.specs.MetadataAt.{PAREN, CURLY, NAMED}
use Rattle.ir_parse_parts.specs.MetadataBehind.{BANG, BRACES, line_goes_on}

abbrev pub line_rest_at : Step (List Bracket) → Reader Tok (Unit {0})
line_rest_at bad = done tt
line_rest_at last = done tt
line_rest_at (onward bs) = run_at line_step bs

unfoldable pub goes_on_but_at : List ℕ → Reader Tok (Unit {0})
goes_on_but_at apart = do
  s ← token_at (line_goes_on apart)
  line_rest_at s

unfoldable pub named_node_at : Reader Tok Before
named_node_at = do
  _ ← the_at kinds.Meta
  _ ← optional_at (among tokens PAREN) (group_at Paren)
  done befores.Declaration

abbrev pub line_end_or_at : List ℕ → Bool → Reader Tok Before
line_end_or_at apart true = done befores.Item
line_end_or_at apart false = do
  _ ← goes_on_but_at apart
  done befores.Item

unfoldable pub behind_mark_at : Bool → Reader Tok Before
behind_mark_at ends = pick (among tokens CURLY)
    (do
      _ ← group_at Curly
      done befores.Declaration)
    (pick (among tokens PAREN)
    (do
      _ ← group_at Paren
      done befores.Declaration)
    (line_end_or_at BRACES ends))

unfoldable pub marked_at : Reader Tok Before
marked_at = do
  ends ← one_of_at BANG ends_line
  behind_mark_at ends

unfoldable pub node_yet_at : Reader Tok Before
node_yet_at = pick (among tokens NAMED) named_node_at marked_at

unfoldable pub node_or_line_at : Reader Tok Before
node_or_line_at = pick (among tokens NAMED) named_node_at (pick (among tokens BANG) marked_at
    (do
      _ ← goes_on_but_at META
      done befores.Item))

abbrev pub behind_name_at : Bool → Reader Tok Before
behind_name_at true = done befores.Name
behind_name_at false = node_or_line_at

unfoldable pub metadata_behind_at : Reader Tok Before
metadata_behind_at = do
  ends ← one_of_at META ends_line
  behind_name_at ends
