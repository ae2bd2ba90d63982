-- What the readers of type definitions give.
use Rattle.std.specs.Prelude.{ℕ, Option, Some, None, List, [], ◌∷◌}
use Rattle.ir_lex.specs.declared.token_kind.TokenKind.TheVariants as kinds
use Rattle.ir_lex.specs.TokenKinds.{number}
use Rattle.ir_lex.specs.Tok.{Tok}
use Rattle.ir_parse_parts.specs.Alphabet.{among}
use Rattle.ir_parse_parts.specs.Readers.{Reader, ◌>>=◌, done, pick}
use Rattle.ir_parse_parts.specs.Classes.{tokens, the_at}
use Rattle.ir_parse_parts.specs.declared.raw.Item.{Item}
use Rattle.ir_parse_parts.specs.declared.raw.Item.TheVariants as items
use Rattle.ir_parse_parts.specs.declared.shape.Typed.{Typed}
use Rattle.ir_parse_parts.specs.OperandsAt.{local_at}
use Rattle.ir_parse_operands.specs.ShapeFormsAt.{memory_shape_at}

abbrev pub OPAQUE : List ℕ
OPAQUE = number kinds.Opaque ∷ []

unfoldable pub defined_at : Reader Tok (Option Typed)
defined_at = pick (among tokens OPAQUE)
    (do
      _ ← the_at kinds.Opaque
      done None)
    (do
      typed ← memory_shape_at
      done (Some typed))

-- what stands before what it stands for
abbrev pub type_name_at : Reader Tok Tok
type_name_at = do
  name ← local_at
  _ ← the_at kinds.Equals
  _ ← the_at kinds.Type
  done name

unfoldable pub type_line_at : Reader Tok Item
type_line_at = do
  name ← local_at
  _ ← the_at kinds.Equals
  _ ← the_at kinds.Type
  typed ← defined_at
  done (items.Type name typed)
