-- Printed names are read (LangRef, "Identifiers").
use Rattle.std.proofs.Common.{◌≡◌, ℕ, ◌<◌, Bool, true, false, cond, not, ◌&&◌, nat_lt, Some, None, List, [], ◌∷◌, drop, decimal, refl, ap, ◌∙◌, arith}
use Rattle.ir_lex.specs.TokenKinds.{number, kind_of}
use Rattle.ir_lex.specs.Quotes.{stripped}
use Rattle.ir_lex.specs.Tok.{Tok}
use Rattle.ir_lex.specs.declared.token_kind.TokenKind.{TokenKind}
use Rattle.ir_lex.specs.declared.token_kind.TokenKind.TheVariants as kinds
use Rattle.ir_lex.specs.declared.token.TokenForm.TheVariants as forms
use Rattle.ir_print.specs.Blocks as printed
use Rattle.ir_print.specs.Tokens as printed_token
use Rattle.ir_print.specs.Tokens.{space}
use Rattle.ir_parse_parts.specs.Classes.{refusal}
use Rattle.ir_parse_parts.specs.Decimals as read_decimal
use Rattle.ir_parse_parts.specs.Operands.{is_numeral, named, named_by, LOCAL}
use Rattle.ir_parse_parts.specs.Operands as read
use Rattle.ir_parse_operands.specs.Terminators.{target}
use Rattle.ir_parse_parts.specs.Alphabet.{contains}
use Rattle.ir_round_trip.specs.PartsPrinted.{IsNumber}
use Rattle.ir_round_trip.specs.Reads.{Parses}
use Rattle.ir_round_trip.specs.PartsReadable.{IsSmall}
use Rattle.ir_round_trip.proofs.Composed.{then}
use Rattle.ir_round_trip.proofs.Numerals.{decimal_again}
use Rattle.ir_round_trip.proofs.Tokens.{IsToken, single, by_value}
use Rattle.ir_round_trip.proofs.Words.{label_read}

abbrev pub local_text : ℕ → List ℕ
local_text n = 37 ∷ decimal n

pub local_class : (n : ℕ) → kind_of forms.Local (local_text n) [] ≡ kinds.Local
unfolding kind_of
local_class n = refl

-- a number that is small enough names something
pub small_named : (t : Tok) (digits : List ℕ) (n : ℕ) → read_decimal.decimal digits ≡ n → IsSmall n → named_by t digits ≡ Some t
small_named t digits n e h = ap (λ (m : ℕ). cond (is_numeral digits && not (nat_lt m 4294967296)) None (Some t)) e ∙ by_test (is_numeral digits) (nat_lt n 4294967296) (less n 4294967296 h)
  where
    less : (n m : ℕ) → n < m → nat_lt n m ≡ true
    less n m h = grind arith

    by_test : (a b : Bool) → b ≡ true → cond (a && not b) None (Some t) ≡ Some t
    by_test true true e = refl
    by_test false true e = refl
    by_test a false e = absurd cc

bare : (n : ℕ) (t : Tok) → IsToken forms.Local (local_text n) t → stripped t.form t.text ≡ decimal n
bare n t i = ap (λ k. stripped k t.text) i.form ∙ ap (drop 1) i.text

pub local_named : (n : ℕ) → IsSmall n → (t : Tok) → IsToken forms.Local (local_text n) t → named t ≡ Some t
unfolding named
local_named n h t i = ap (named_by t) (bare n t i) ∙ small_named t (decimal n) n (decimal_again n (omega (arith, h))) h

pub is_number : (n : ℕ) (t : Tok) → IsToken forms.Local (local_text n) t → IsNumber n t
is_number n t i = record { form = i.form; text = i.text }

pub local_read : (blank : List ℕ) (n : ℕ) → IsSmall n → Parses read.local (IsNumber n) (printed_token.local blank n)
local_read blank n h = single blank forms.Local _ _ (by_value refusal LOCAL named forms.Local (local_text n) (ap (λ (h : TokenKind). contains LOCAL (number h)) (local_class n)) (λ t i. (t, local_named n h t i, is_number n t i)))

pub target_read : (n : ℕ) → IsSmall n → Parses target (IsNumber n) (printed.target n)
unfolding target
target_read n h = then (label_read space) (λ a u. local_read space n h)
