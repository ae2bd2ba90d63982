-- Printed lines that name the target are read (LangRef, "Data Layout", "Target Triple").
use Rattle.std.proofs.Common.{◌≡◌, ℕ, Bool, true, cond, nat_eq, Result, Ok, Err, List, [], ◌∷◌, codes, refl, ap, ◌∙◌}
use Rattle.ir_lex.specs.TokenKinds.{number, kind_of, word_kind, listed_kind, words_6, words_10}
use Rattle.ir_lex.specs.Quotes.{content}
use Rattle.ir_lex.specs.Tok.{Tok}
use Rattle.ir_lex.specs.declared.token_kind.TokenKind.{TokenKind}
use Rattle.ir_lex.specs.declared.token_kind.TokenKind.TheVariants as kinds
use Rattle.ir_lex.specs.declared.token.TokenForm.TheVariants as forms
use Rattle.ir_print.specs.Modules as printed
use Rattle.ir_print.specs.Tokens.{tight, space, word, closed, string}
use Rattle.ir_parse_parts.specs.Classes.{refusal, the, one_of, itself}
use Rattle.ir_parse_heads.specs.Targets.{STRING, fits_layout, is_layout, layout_line, triple_line, target_line}
use Rattle.ir_tree.specs.Names.{AllBytes}
use Rattle.ir_parse_parts.specs.Alphabet.{contains}
use Rattle.ir_parse_parts.specs.declared.fault.TokenFault.{TokenFault}
use Rattle.ir_parse_parts.specs.declared.fault.TokenFault.TheVariants.{Profile}
use Rattle.ir_parse_parts.specs.Forms.{token}
use Rattle.ir_round_trip.proofs.Quoted.{string_content}
use Rattle.ir_round_trip.specs.PartsPrinted.{IsString, IsLayout, IsTriple}
use Rattle.ir_round_trip.specs.Reads.{Parses, Any}
use Rattle.ir_round_trip.proofs.Composed.{then, last, nothing, left, right}
use Rattle.ir_round_trip.proofs.Tokens.{IsToken, single, the_read, by_classes}
use Rattle.ir_round_trip.proofs.Words.{equals_read}

target_read : Parses (the kinds.Target) Any (word tight (codes "target"))
unfolding kind_of word_kind listed_kind words_6
target_read = the_read kinds.Target tight forms.Word _ _ refl

datalayout_read : Parses (the kinds.Datalayout) Any (word space (codes "datalayout"))
unfolding kind_of word_kind listed_kind words_10
datalayout_read = the_read kinds.Datalayout space forms.Word _ _ refl

triple_word_read : Parses (the kinds.Triple) Any (word space (codes "triple"))
unfolding kind_of word_kind listed_kind words_6
triple_word_read = the_read kinds.Triple space forms.Word _ _ refl

-- ---- strings

abbrev string_text : List ℕ → List ℕ
string_text text = 34 ∷ closed text

string_class : (text : List ℕ) → kind_of forms.Str text [] ≡ kinds.Str
unfolding kind_of
string_class text = refl

is_string : (text : List ℕ) (t : Tok) → IsToken forms.Str (string_text text) t → IsString text t
is_string text t i = record { form = i.form; text = i.text }

says : (text : List ℕ) (t : Tok) → AllBytes text → IsToken forms.Str (string_text text) t → content t.form t.text ≡ text
says text t a i = ap (λ k. content k t.text) i.form ∙ ap (content forms.Str) i.text ∙ string_content text a

-- a layout is taken where it fits
abbrev by_fit : Tok → Bool → Result Tok TokenFault
by_fit t b = cond b (Ok t) (Err Profile)

layout_string : (text : List ℕ) → AllBytes text → fits_layout text ≡ true → Parses (token is_layout) (IsString text) (string space text)
unfolding is_layout
layout_string text a fits = single space forms.Str _ _ (λ t i. (
  t,
  ap (λ (h : TokenKind). cond (nat_eq (number h) (number kinds.Str)) (by_fit t (fits_layout (content t.form t.text))) (Err (refusal (number h)))) (i.kind ∙ string_class (string_text text))
      ∙ ap (by_fit t) (ap fits_layout (says text t a i) ∙ fits),
  is_string text t i,
))

triple_string : (text : List ℕ) → Parses (one_of STRING itself) (IsString text) (string space text)
triple_string text = single space forms.Str _ _ (by_classes refusal STRING itself forms.Str (string_text text) (ap (λ (h : TokenKind). contains STRING (number h)) (string_class (string_text text))) (λ t i. is_string text t i))

-- ---- lines

pub layout_read : (text : List ℕ) → AllBytes text → fits_layout text ≡ true → Parses target_line (IsLayout text) (printed.target_line (codes "datalayout") text)
unfolding target_line layout_line
layout_read text a fits = then target_read (λ b u. left _ (then datalayout_read (λ c v. then (equals_read space) (λ d w. last (layout_string text a fits) (λ t i. nothing (t, refl, i))))))

pub triple_read : (text : List ℕ) → Parses target_line (IsTriple text) (printed.target_line (codes "triple") text)
unfolding target_line triple_line
triple_read text = then target_read (λ b u. right _ (then triple_word_read (λ c v. then (equals_read space) (λ d w. last (triple_string text) (λ t i. nothing (t, refl, i))))))
