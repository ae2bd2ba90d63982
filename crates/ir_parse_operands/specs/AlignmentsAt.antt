-- What the readers of alignments behind addresses give.
use Rattle.std.specs.Prelude.{ℕ, Option, Some, None, List, [], ◌∷◌}
use Rattle.ir_lex.specs.declared.token_kind.TokenKind.TheVariants as kinds
use Rattle.ir_lex.specs.TokenKinds.{number}
use Rattle.ir_lex.specs.Tok.{Tok}
use Rattle.ir_parse_parts.specs.Alphabet.{among}
use Rattle.ir_parse_parts.specs.Readers.{Reader, ◌>>=◌, done, pick, token_at}
use Rattle.ir_parse_parts.specs.Classes.{tokens, the_at}
use Rattle.ir_parse_parts.specs.Decimals.{is_alignment}
use Rattle.ir_parse_parts.specs.MetadataAt.{COMMA, attached_at, attachments_at}

abbrev pub ALIGN : List ℕ
ALIGN = number kinds.Align ∷ []

unfoldable pub aligned_at : Reader Tok (Option ℕ)
aligned_at = pick (among tokens ALIGN)
    (do
      _ ← the_at kinds.Align
      n ← token_at is_alignment
      _ ← attachments_at
      done (Some n))
    (do
      _ ← attached_at
      _ ← attachments_at
      done None)

unfoldable pub align_at : Reader Tok (Option ℕ)
align_at = pick (among tokens COMMA)
    (do
      _ ← the_at kinds.Comma
      aligned_at)
    (done None)
