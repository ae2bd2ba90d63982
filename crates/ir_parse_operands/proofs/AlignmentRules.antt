-- The readers of alignments behind addresses read them.
use Rattle.std.proofs.Common.{ℕ, true, false, None, List, [], ◌∷◌, refl}
use Rattle.ir_lex.specs.declared.token_kind.TokenKind.TheVariants as kinds
use Rattle.ir_lex.specs.TokenKinds.{number}
use Rattle.ir_parse_parts.specs.Rules.{Rule}
use Rattle.ir_parse_parts.proofs.Rules as rules
use Rattle.ir_parse_parts.specs.Classes.{tokens}
use Rattle.ir_parse_operands.specs.Alignments.{aligned, align}
use Rattle.ir_parse_operands.specs.AlignmentsAt.{ALIGN, aligned_at, align_at}
use Rattle.ir_parse_parts.specs.MetadataAt.{COMMA}
use Rattle.ir_parse_parts.proofs.Alignments.{alignment_rule}
use Rattle.ir_parse_parts.proofs.Nodes.{attached_rule, attachments_rule}
use Rattle.ir_parse_parts.proofs.Singles.{comma_rule, align_rule}

abbrev pub AFTER : List ℕ
AFTER = number kinds.OpenParen ∷ number kinds.Comma ∷ []

pub aligned_rule : Rule tokens aligned aligned aligned_at (number kinds.Align ∷ number kinds.Meta ∷ number kinds.Bang ∷ []) AFTER false
unfolding aligned aligned_at
aligned_rule = rules.broader tokens _ AFTER
    (rules.alt tokens ALIGN (rules.seq tokens align_rule (λ _. rules.seq tokens alignment_rule (λ _. rules.seq tokens attachments_rule (λ _. rules.nothing tokens _) refl) refl) refl)
    (rules.seq tokens attached_rule (λ _. rules.seq tokens attachments_rule (λ _. rules.nothing tokens _) refl) refl)
    refl refl)
    refl refl

pub alignment_rest_rule : Rule tokens align align align_at COMMA AFTER true
unfolding align align_at
alignment_rest_rule = rules.broader tokens COMMA AFTER (rules.alt tokens COMMA (rules.seq tokens comma_rule (λ _. aligned_rule) refl) (rules.nothing tokens None) refl refl) refl refl
