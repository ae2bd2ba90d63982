-- The first fault of the readers of metadata is of a kind that its token allows.
use Rattle.ir_parse.proofs.Told.{Tells, run_line_told, seq, nothing, alt, star, maybe, the_told, one_told, group_told}
use Rattle.std.specs.Prelude.{Bool, true, false, []}
use Rattle.ir_lex.specs.declared.token_kind.TokenKind.TheVariants as kinds
use Rattle.ir_parse_parts.specs.Alphabet.{among}
use Rattle.ir_parse_parts.specs.Classes.{tokens}
use Rattle.ir_parse_parts.specs.Metadata.{META, ends_line}
use Rattle.ir_parse_parts.specs.declared.brackets.Bracket.TheVariants.{Paren, Curly}
use Rattle.ir_parse_parts.specs.MetadataAt.{PAREN, CURLY, NAMED, COMMA, node_at, attached_at, attachment_at, attachments_at, rest_of_line_at, metadata_line_at}
use Rattle.std.proofs.Common.{refl}

pub node_told : Tells node_at
unfolding node_at
node_told =
    alt (among tokens NAMED) (seq (the_told kinds.Meta) (λ _. seq (maybe (among tokens PAREN) (group_told Paren)) (λ _. nothing _))) (seq (the_told kinds.Bang) (λ _. alt (among tokens CURLY) (group_told Curly) (group_told Paren)))

pub attached_told : Tells attached_at
unfolding attached_at
attached_told = seq (one_told META ends_line) (λ _. node_told)

pub attachment_told : Tells attachment_at
unfolding attachment_at
attachment_told = seq (the_told kinds.Comma) (λ _. attached_told)

pub attachments_told : Tells attachments_at
unfolding attachments_at
attachments_told = seq (star COMMA refl attachment_told) (λ _. nothing _)

pub rest_of_line_told : (x0 : Bool) → Tells (rest_of_line_at x0)
rest_of_line_told true = nothing _
rest_of_line_told false = run_line_told []

pub metadata_line_told : Tells metadata_line_at
unfolding metadata_line_at
metadata_line_told = seq (one_told META ends_line) (λ ends. rest_of_line_told ends)
