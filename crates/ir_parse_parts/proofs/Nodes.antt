-- The readers of metadata read it.
use Rattle.std.proofs.Common.{◌≡◌, Bool, true, false, ◌&&◌, cond, List, [], ◌∷◌, refl, sym, ap, ◌∙◌}
use Rattle.std.specs.Prelude.{codes}
use Rattle.ir_lex.specs.Bytes.{has}
use Rattle.ir_lex.specs.declared.token_kind.TokenKind.TheVariants as kinds
use Rattle.ir_lex.specs.declared.token.TokenForm.TheVariants as forms
use Rattle.ir_lex.specs.TokenKinds.{number, kind_of}
use Rattle.ir_lex.specs.Lexing.{is_bad}
use Rattle.ir_lex.specs.Quotes.{is_zero_name}
use Rattle.ir_lex.specs.Rows.{best_fit, rest_fit, label_len, number_len, word_len, name_len, meta_len, dots_len, other_len, string_len}
use Rattle.ir_lex.specs.Tok.{Tok}
use Rattle.ir_parse_parts.specs.Alphabet.{among, AllReal}
use Rattle.ir_parse_parts.specs.Balanced.{Move, none_open}
use Rattle.ir_parse_parts.specs.Rules.{Rule, Opens}
use Rattle.ir_parse_parts.specs.Runs.{Step, bad, last, onward, Run, run_at, HaveEnds}
use Rattle.ir_parse_parts.proofs.Composed.{widened}
use Rattle.ir_parse_parts.proofs.Rules as rules
use Rattle.ir_parse_parts.proofs.Runs.{run_lawful}
use Rattle.ir_parse_parts.specs.Classes.{tokens, IsReal, the, one_of, one_of_at}
use Rattle.ir_parse_parts.specs.declared.brackets.Bracket.{Bracket}
use Rattle.ir_parse_parts.specs.declared.brackets.Bracket.TheVariants.{Paren, Square, Curly}
use Rattle.ir_parse_parts.specs.Metadata.{META, node, attached, attachment, attachments, ends_line, open_behind, ended_by, line_step, rest_of_line, metadata_line}
use Rattle.ir_parse_parts.specs.MetadataAt.{PAREN, CURLY, NAMED, COMMA, node_at, attached_at, attachment_at, attachments_at, rest_of_line_at, metadata_line_at}
use Rattle.ir_parse_parts.proofs.GroupRules.{EVERY, every_class, closer, closer_real, number_stays, group_rule}
use Rattle.ir_parse_parts.proofs.Singles.{sample, the_opens, one_rule, one_opens, meta_real, meta_rule, bang_rule, comma_rule}

meta_sample : Rule tokens (one_of META ends_line) (one_of META ends_line) (one_of_at META ends_line) META [] false
meta_sample = one_rule META ends_line (sample forms.Meta kinds.Meta (codes "!a")) refl meta_real

pub node_rule : Rule tokens node node node_at META PAREN false
unfolding node node_at
node_rule =
    rules.alt tokens NAMED (rules.seq tokens meta_rule (λ _. rules.seq tokens (rules.maybe tokens PAREN (group_rule Paren) refl) (λ _. rules.nothing tokens tt) refl) refl)
    (rules.seq tokens bang_rule (λ _. rules.alt tokens CURLY (group_rule Curly) (group_rule Paren) refl refl) refl) refl refl

pub attached_rule : Rule tokens attached attached attached_at META PAREN false
unfolding attached attached_at
attached_rule = rules.seq tokens meta_sample (λ _. node_rule) refl

pub attached_opens : Opens tokens META attached
unfolding attached
attached_opens = rules.opens_seq tokens META (one_of META ends_line) (one_opens META ends_line) (λ _. node_rule)

pub attachment_rule : Rule tokens attachment attachment attachment_at COMMA PAREN false
unfolding attachment attachment_at
attachment_rule = rules.seq tokens comma_rule (λ _. attached_rule) refl

pub attachment_opens : Opens tokens COMMA attachment
unfolding attachment
attachment_opens = rules.opens_seq tokens COMMA (the kinds.Comma) (the_opens kinds.Comma) (λ _. attached_rule)

pub attachments_rule : Rule tokens attachments attachments attachments_at COMMA (number kinds.OpenParen ∷ number kinds.Comma ∷ []) true
unfolding attachments attachments_at
attachments_rule = rules.seq tokens (rules.star tokens COMMA attachment_rule attachment_opens refl refl) (λ _. rules.nothing tokens tt) refl

-- ---- lines

-- a token behind which the line ends
line_end : Tok
line_end = record { form = forms.Meta; text = codes "!a"; line = 1; kind = kinds.Meta; ends_line = true }

line_end_real : IsReal line_end
unfolding line_end best_fit rest_fit label_len number_len word_len name_len meta_len dots_len other_len string_len has is_bad is_zero_name kind_of
line_end_real = record { behind = []; some = refl; fits = refl; good = refl; class = refl }

ending : List Bracket → List Tok
ending [] = line_end ∷ []
ending (b ∷ bs) = closer b ∷ ending bs

ending_real : (bs : List Bracket) → AllReal tokens (ending bs)
unfolding ending
ending_real [] = (line_end_real, tt)
ending_real (b ∷ bs) = (closer_real b, ending_real bs)

leads : (bs : List Bracket) → Run line_step bs (ending bs) tt
unfolding ending line_end
leads [] = refl
leads (Paren ∷ bs) = leads bs
leads (Square ∷ bs) = leads bs
leads (Curly ∷ bs) = leads bs

abbrev step_last : Unit {0} → Step (List Bracket)
step_last u = last

stays_fits : (ends : Bool) (bs : List Bracket) → ended_by ends (onward bs) ≡ bad → ⊥
stays_fits ends bs = by_test (ends && none_open bs)
  where
    by_test : (b : Bool) → cond b (step_last tt) (onward bs) ≡ bad → ⊥
    by_test true e = cc
    by_test false e = cc

have_ends : HaveEnds line_step tokens
have_ends = record {
  ending = ending;
  leads = leads;
  real = ending_real;
  number_fits = λ bs t n e. stays_fits t.ends_line bs (ap (λ (m : Move Bracket). ended_by t.ends_line (open_behind m bs)) (sym (number_stays t.kind n)) ∙ e);
}

pub line_rule : (bs : List Bracket) → Rule tokens (Run line_step bs) (Run line_step bs) (run_at line_step bs) EVERY [] false
line_rule bs = record { law = widened tokens (among tokens EVERY) (among tokens []) (run_lawful tokens line_step have_ends bs) (λ t e. every_class t.kind) (λ t e. e) }

rest_of_line_rule : (ends : Bool) → Rule tokens (rest_of_line ends) (rest_of_line ends) (rest_of_line_at ends) EVERY [] true
rest_of_line_rule true = rules.wider tokens _ _ (rules.nothing tokens tt) refl refl
rest_of_line_rule false = rules.wider tokens _ _ (line_rule []) refl refl

pub metadata_line_rule : Rule tokens metadata_line metadata_line metadata_line_at META [] false
unfolding metadata_line metadata_line_at
metadata_line_rule = rules.seq tokens meta_sample rest_of_line_rule refl

pub metadata_line_opens : Opens tokens META metadata_line
unfolding metadata_line
metadata_line_opens = rules.opens_seq tokens META (one_of META ends_line) (one_opens META ends_line) rest_of_line_rule
