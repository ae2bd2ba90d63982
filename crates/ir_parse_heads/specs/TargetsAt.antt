-- What the readers of these lines give.
use Rattle.std.specs.Prelude.{ℕ, List, [], ◌∷◌}
use Rattle.ir_lex.specs.declared.token_kind.TokenKind.TheVariants as kinds
use Rattle.ir_lex.specs.TokenKinds.{number}
use Rattle.ir_lex.specs.Tok.{Tok}
use Rattle.ir_parse_parts.specs.Alphabet.{among}
use Rattle.ir_parse_parts.specs.Readers.{Reader, ◌>>=◌, done, pick, token_at}
use Rattle.ir_parse_parts.specs.Classes.{tokens, the_at, one_of_at, itself}
use Rattle.ir_parse_heads.specs.Targets.{STRING, is_layout}
use Rattle.ir_parse_parts.specs.declared.raw.Item.{Item}
use Rattle.ir_parse_parts.specs.declared.raw.Item.TheVariants.{Datalayout, Triple}

abbrev pub LAYOUT : List ℕ
LAYOUT = number kinds.Datalayout ∷ []

unfoldable pub layout_line_at : Reader Tok Item
layout_line_at = do
  _ ← the_at kinds.Datalayout
  _ ← the_at kinds.Equals
  layout ← token_at is_layout
  done (Datalayout layout)

unfoldable pub triple_line_at : Reader Tok Item
triple_line_at = do
  _ ← the_at kinds.Triple
  _ ← the_at kinds.Equals
  triple ← one_of_at STRING itself
  done (Triple triple)

unfoldable pub target_line_at : Reader Tok Item
target_line_at = do
  _ ← the_at kinds.Target
  pick (among tokens LAYOUT) layout_line_at triple_line_at

unfoldable pub source_line_at : Reader Tok (Unit {0})
source_line_at = do
  _ ← the_at kinds.SourceFilename
  _ ← the_at kinds.Equals
  the_at kinds.Str

unfoldable pub comdat_line_at : Reader Tok (Unit {0})
comdat_line_at = do
  _ ← the_at kinds.ComdatName
  _ ← the_at kinds.Equals
  _ ← the_at kinds.Comdat
  the_at kinds.Any
