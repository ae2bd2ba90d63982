-- Alignments behind addresses (LangRef, "load Instruction", "alloca Instruction").
use Rattle.std.specs.Prelude.{ℕ, Option, Some, None}
use Rattle.ir_lex.specs.declared.token_kind.TokenKind.TheVariants as kinds
use Rattle.ir_lex.specs.Tok.{Tok}
use Rattle.ir_parse_parts.specs.Forms.{Form, ◌>>=◌, either, gives, token}
use Rattle.ir_parse_parts.specs.Classes.{the}
use Rattle.ir_parse_parts.specs.Decimals.{is_alignment}
use Rattle.ir_parse_parts.specs.Metadata.{attached, attachments}

-- behind a comma: align N {att} / Meta node {att}
unfoldable pub aligned : Form Tok (Option ℕ)
aligned = either
    (do
      _ ← the kinds.Align
      n ← token is_alignment
      _ ← attachments
      gives (Some n))
    (do
      _ ← attached
      _ ← attachments
      gives None)

-- [, align N] {att}
unfoldable pub align : Form Tok (Option ℕ)
align = either
    (do
      _ ← the kinds.Comma
      aligned)
    (gives None)
