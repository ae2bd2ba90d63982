-- The label of a block is read as its number (LangRef, "Identifiers").
use Rattle.std.proofs.Common.{◌≡◌, ℕ, suc, ◌-◌, true, Some, List, [], ◌∷◌, ◌++◌, length, take, decimal, refl, ap, ◌∙◌, arith}
use Rattle.ir_lex.specs.TokenKinds.{number, kind_of}
use Rattle.ir_lex.specs.Quotes.{stripped}
use Rattle.ir_lex.specs.Tok.{Tok}
use Rattle.ir_lex.specs.declared.token_kind.TokenKind.TheVariants as kinds
use Rattle.ir_lex.specs.declared.token.TokenForm.TheVariants as forms
use Rattle.ir_print.specs.Tokens.{next_line, label_line}
use Rattle.ir_parse_parts.specs.Classes.{tokens, refusal}
use Rattle.ir_parse_parts.specs.Operands.{named, named_by}
use Rattle.ir_parse_parts.specs.Alphabet.{contains}
use Rattle.ir_parse_parts.specs.Forms.{token}
use Rattle.ir_parse_parts.specs.Rules.{is_valued}
use Rattle.ir_round_trip.specs.PartsPrinted.{IsLabel}
use Rattle.ir_round_trip.specs.PartsReadable.{IsSmall}
use Rattle.ir_round_trip.specs.Reads.{Parses}
use Rattle.ir_round_trip.proofs.PrintedNames.{small_named}
use Rattle.ir_round_trip.proofs.Numerals.{decimal_again, decimal_nonempty}
use Rattle.ir_round_trip.proofs.Tokens.{IsToken, class_of, NonEmpty, piece_read, by_value}

abbrev LABEL : List ℕ
LABEL = number kinds.Label ∷ []

abbrev label_text : ℕ → List ℕ
label_text n = decimal n ++ 58 ∷ []

label_nonempty : (n : ℕ) → NonEmpty (label_text n)
label_nonempty n = let s = decimal_nonempty n in record { first = s.first; others = s.others ++ 58 ∷ []; whole = ap (λ (ds : List ℕ). ds ++ 58 ∷ []) s.whole }

label_class : (text : List ℕ) → contains LABEL (class_of forms.Label text) ≡ true
unfolding kind_of
label_class text = refl

-- without its colon
without_colon : (ds : List ℕ) → take (length (ds ++ 58 ∷ []) - 1) (ds ++ 58 ∷ []) ≡ ds
without_colon ds = ap (λ (n : ℕ). take (n - 1) (ds ++ 58 ∷ [])) (one_more ds) ∙ ap (λ (n : ℕ). take n (ds ++ 58 ∷ [])) (less (length ds)) ∙ front ds
  where
    one_more : (ds : List ℕ) → length (ds ++ 58 ∷ []) ≡ suc (length ds)
    one_more [] = refl
    one_more (d ∷ ds) = ap suc (one_more ds)

    less : (n : ℕ) → suc n - 1 ≡ n
    less n = omega arith

    front : (ds : List ℕ) → take (length ds) (ds ++ 58 ∷ []) ≡ ds
    front [] = refl
    front (d ∷ ds) = ap (λ (more : List ℕ). d ∷ more) (front ds)

bare : (n : ℕ) (t : Tok) → IsToken forms.Label (label_text n) t → stripped t.form t.text ≡ decimal n
bare n t i = ap (λ k. stripped k t.text) i.form ∙ ap (λ (text : List ℕ). take (length text - 1) text) i.text ∙ without_colon (decimal n)

label_named : (n : ℕ) → IsSmall n → (t : Tok) → IsToken forms.Label (label_text n) t → named t ≡ Some t
unfolding named
label_named n h t i = ap (named_by t) (bare n t i) ∙ small_named t (decimal n) n (decimal_again n (omega (arith, h))) h

pub label_read : (n : ℕ) → IsSmall n → Parses (token (is_valued tokens refusal LABEL named)) (IsLabel n) (label_line n)
label_read n h = piece_read next_line forms.Label (label_text n) (label_nonempty n) (by_value refusal LABEL named forms.Label (label_text n) (label_class (label_text n)) (λ t i. (t, label_named n h t i, record { form = i.form; text = i.text })))
