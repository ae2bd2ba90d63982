-- Type definitions (LangRef, "Structure Type", "Opaque Structure Types"), over what spells a shape.
use Rattle.std.specs.Prelude.{Option, Some, None}
use Rattle.ir_lex.specs.declared.token_kind.TokenKind.TheVariants as kinds
use Rattle.ir_lex.specs.Tok.{Tok}
use Rattle.ir_parse_parts.specs.Forms.{Form, ◌>>=◌, either, gives}
use Rattle.ir_parse_parts.specs.Classes.{the}
use Rattle.ir_parse_parts.specs.declared.raw.Item.{Item}
use Rattle.ir_parse_parts.specs.declared.raw.Item.TheVariants as items
use Rattle.ir_parse_parts.specs.declared.shape.Typed.{Typed}
use Rattle.ir_parse_parts.specs.Operands.{local}

-- opaque / shape
unfoldable pub defined : Form Tok Typed → Form Tok (Option Typed)
defined shape = either
    (do
      _ ← the kinds.Opaque
      gives None)
    (do
      typed ← shape
      gives (Some typed))

-- Local = type (opaque / shape)
unfoldable pub type_line : Form Tok Typed → Form Tok Item
type_line shape = do
  name ← local
  _ ← the kinds.Equals
  _ ← the kinds.Type
  typed ← defined shape
  gives (items.Type name typed)
