-- The reader of an alignment reads one.
use Rattle.std.proofs.Common.{◌≡◌, ℕ, Bool, true, false, ◌&&◌, ◌||◌, not, arith, nat_eq, cond, Some, None, List, [], ◌∷◌, ◌++◌, Result, Ok, Err, refl, sym, ap, subst}
use Rattle.std.specs.Prelude.{codes}
use Rattle.ir_lex.specs.Bytes.{has}
use Rattle.ir_lex.specs.declared.token_kind.TokenKind.TheVariants as kinds
use Rattle.ir_lex.specs.declared.token.TokenForm.TheVariants as forms
use Rattle.ir_lex.specs.TokenKinds.{number, kind_of, word_kind, listed_kind, words_1}
use Rattle.ir_lex.specs.Lexing.{is_bad}
use Rattle.ir_lex.specs.Quotes.{is_zero_name}
use Rattle.ir_lex.specs.Rows.{begins, best_fit, rest_fit, label_len, number_len, word_len, name_len, meta_len, dots_len, other_len, string_len}
use Rattle.ir_lex.specs.Tok.{Tok}
use Rattle.ir_parse_parts.specs.Alphabet.{contains, among, is_number}
use Rattle.ir_parse_parts.specs.declared.fault.TokenFault.{TokenFault}
use Rattle.ir_parse_parts.specs.declared.fault.TokenFault.TheVariants.{Syntax, Profile, Number, Limit}
use Rattle.ir_parse_parts.specs.Forms as form
use Rattle.ir_parse_parts.specs.Lawful.{SameRefusal}
use Rattle.ir_parse_parts.specs.Readers.{token_at}
use Rattle.ir_parse_parts.specs.Rules.{Rule, Opens, IsWithin}
use Rattle.ir_parse_parts.proofs.Composed.{token_lawful}
use Rattle.ir_parse_parts.specs.Classes.{tokens, IsReal, NUMERALS, refusal}
use Rattle.ir_parse_parts.specs.Decimals.{ALIGNMENTS, decimal, alignment_of, is_alignment}
use Rattle.ir_parse_parts.proofs.Singles.{sample, not_number, not_limit, number_real}

abbrev NUMBER : List ℕ
NUMBER = number kinds.Number ∷ []

abbrev fault : TokenFault → Result ℕ TokenFault
fault k = Err k

abbrev aligned_by : Bool → Bool → List ℕ → Result ℕ TokenFault
aligned_by is_number fits text = cond is_number (cond fits (Ok (decimal text)) (Err Number)) (Err Syntax)

one : Tok
one = sample forms.Number kinds.Number (codes "1")

range : (t : Tok) → is_alignment t ≡ fault Number → (is_number tokens t ≡ true) × (u : Tok) × (b : ℕ) × (tokens.class u ≡ tokens.class t) × (is_alignment u ≡ Ok b) × IsReal u
unfolding is_alignment alignment_of one
range t e = by_class (nat_eq (number t.kind) (number kinds.Number)) refl e
  where
    same : (n m : ℕ) → nat_eq n m ≡ true → m ≡ n
    same n m h = grind arith

    never : (k l : TokenFault) → fault k ≡ fault l → k ≡ l
    never k l e = cc

    is_one : (n : ℕ) → nat_eq n (number kinds.Number) ≡ true → contains tokens.numerals n ≡ true
    is_one n h = subst (λ (m : ℕ). contains tokens.numerals m ≡ true) (same n (number kinds.Number) h) refl

    by_class : (b : Bool) → nat_eq (number t.kind) (number kinds.Number) ≡ b → cond b (alignment_of t.text) (fault (refusal (number t.kind))) ≡ fault Number → (is_number tokens t ≡ true) × (u : Tok) × (b : ℕ) × (tokens.class u ≡ tokens.class t) × (is_alignment u ≡ Ok b) × IsReal u
    by_class true h e = (is_one (number t.kind) h, one, 1, same (number t.kind) (number kinds.Number) h, refl, number_real)
    by_class false h e = absurd (not_number (number t.kind) (never (refusal (number t.kind)) Number e))

not_past : (t : Tok) → is_alignment t ≡ fault Limit → ⊥
unfolding is_alignment alignment_of
not_past t e = by_class (nat_eq (number t.kind) (number kinds.Number)) e
  where
    never : (k l : TokenFault) → fault k ≡ fault l → k ≡ l
    never k l e = cc

    no_limit : Number ≡ Limit → ⊥
    no_limit e = cc

    by_fit : (b : Bool) → cond b (Ok (decimal t.text)) (fault Number) ≡ fault Limit → ⊥
    by_fit true e = cc
    by_fit false e = no_limit (never Number Limit e)

    by_class : (b : Bool) → cond b (alignment_of t.text) (fault (refusal (number t.kind))) ≡ fault Limit → ⊥
    by_class true e = by_fit (contains ALIGNMENTS (decimal t.text) && not (begins 45 t.text)) e
    by_class false e = not_limit (number t.kind) (never (refusal (number t.kind)) Limit e)

alike : (t u : Tok) → is_number tokens t ≡ true → tokens.class u ≡ tokens.class t → SameRefusal (is_alignment t) (is_alignment u)
unfolding is_alignment alignment_of
alike t u n e = by_class (nat_eq (number t.kind) (number kinds.Number)) (nat_eq (number u.kind) (number kinds.Number)) (ap (λ (m : ℕ). nat_eq m (number kinds.Number)) (sym e))
  where
    refused_alike : (k l : TokenFault) → k ≡ l → SameRefusal {A = ℕ} (Err k) (Err l)
    refused_alike Number l e = tt
    refused_alike Syntax l e = (l, refl)
    refused_alike Profile l e = (l, refl)
    refused_alike Limit l e = tt

    by_fit : (b : Bool) (m : Result ℕ TokenFault) → SameRefusal {A = ℕ} (cond b (Ok (decimal t.text)) (Err Number)) m
    by_fit true m = tt
    by_fit false m = tt

    by_class : (b c : Bool) → b ≡ c → SameRefusal {A = ℕ} (cond b (alignment_of t.text) (Err (refusal (number t.kind)))) (cond c (alignment_of u.text) (Err (refusal (number u.kind))))
    by_class true c d = by_fit (contains ALIGNMENTS (decimal t.text) && not (begins 45 t.text)) _
    by_class false true d = absurd cc
    by_class false false d = refused_alike (refusal (number t.kind)) (refusal (number u.kind)) (ap refusal (sym e))

begins_alignment : (t : Tok) (n : ℕ) → is_alignment t ≡ Ok n → among tokens NUMBER t ≡ true
unfolding is_alignment
begins_alignment t n e = by_class (nat_eq (number t.kind) (number kinds.Number)) e
  where
    by_class : (b : Bool) → cond b (alignment_of t.text) (fault (refusal (number t.kind))) ≡ Ok n → b || false ≡ true
    by_class true e = refl
    by_class false e = absurd cc

pub alignment_rule : Rule tokens (form.token is_alignment) (form.token is_alignment) (token_at is_alignment) NUMBER [] false
unfolding is_alignment alignment_of one
alignment_rule = record { law = token_lawful tokens is_alignment (among tokens NUMBER) (record { range = range; alike = alike; never = not_past }) begins_alignment one 1 refl number_real }
