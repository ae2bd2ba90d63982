-- Printed numbers are read behind their type: `true` and `false` of one bit, and signed decimals (LangRef, "Simple
-- Constants").
use Rattle.std.proofs.Common.{◌≡◌, ◌⊎◌, inl, inr, ℕ, ◌<◌, ◌^◌, Bool, true, false, cond, nat_eq, Option, Some, option_map, List, [], codes, refl, ap, subst, ◌∙◌, arith}
use Rattle.ir_lex.specs.TokenKinds.{number, kind_of, word_kind, listed_kind, words_4, words_5}
use Rattle.ir_lex.specs.Tok.{Tok}
use Rattle.ir_lex.specs.declared.token_kind.TokenKind.{TokenKind}
use Rattle.ir_lex.specs.declared.token_kind.TokenKind.TheVariants as kinds
use Rattle.ir_lex.specs.declared.token.TokenForm.TheVariants as forms
use Rattle.ir_print.specs.Tokens as printed
use Rattle.ir_print.specs.Tokens.{word, signed, signed_piece, truth}
use Rattle.ir_parse_parts.specs.Classes.{tokens, refusal}
use Rattle.ir_parse_parts.specs.Literals.{literal}
use Rattle.ir_tree.specs.Formed.{IsWidth}
use Rattle.ir_tree.specs.declared.operand.Reg.{Reg}
use Rattle.ir_tree.specs.declared.operand.Reg.TheVariants.{Int}
use Rattle.ir_parse_parts.specs.Alphabet.{contains}
use Rattle.ir_parse_parts.specs.Forms.{token}
use Rattle.ir_parse_parts.specs.Rules.{is_valued}
use Rattle.ir_round_trip.specs.PartsReadable.{NumberReadable}
use Rattle.ir_round_trip.specs.Reads.{Parses}
use Rattle.ir_round_trip.proofs.Numerals.{signed_again, signed_nonempty}
use Rattle.ir_round_trip.proofs.Tokens.{single, piece_read, by_value}

-- a form that reads, behind this type, tokens of these classes as such values, and numbers among them
pub record ReadsNumbers {A : Type 0} (reg : Reg) (classes : List ℕ) (value : Tok → Option A) (made : ℕ → ℕ → A) : Type 0 where
  pub true_there : contains classes (number kinds.True) ≡ true
  pub false_there : contains classes (number kinds.False) ≡ true
  pub is_true : (t : Tok) → t.kind ≡ kinds.True → value t ≡ Some (made 1 1)
  pub is_false : (t : Tok) → t.kind ≡ kinds.False → value t ≡ Some (made 1 0)
  pub number_there : (w : ℕ) → reg ≡ Int w → contains classes (number kinds.Number) ≡ true
  pub is_number : (w : ℕ) → reg ≡ Int w → (t : Tok) → t.kind ≡ kinds.Number → value t ≡ option_map (made w) (literal w t.text)

false_class : kind_of forms.Word (codes "false") [] ≡ kinds.False
unfolding kind_of word_kind listed_kind words_5
false_class = refl

true_class : kind_of forms.Word (codes "true") [] ≡ kinds.True
unfolding kind_of word_kind listed_kind words_4
true_class = refl

number_class : (text : List ℕ) → kind_of forms.Number text [] ≡ kinds.Number
unfolding kind_of
number_class text = refl

-- the class is among these
there : (classes : List ℕ) (g h : TokenKind) → g ≡ h → contains classes (number h) ≡ true → contains classes (number g) ≡ true
there classes g h e c = ap (λ (x : TokenKind). contains classes (number x)) e ∙ c

module _ {A : Type 0} {reg : Reg} {classes : List ℕ} {value : Tok → Option A} {made : ℕ → ℕ → A} (r : ReadsNumbers reg classes value made) where
  bit_read : {P : A → Type 0} (blank : List ℕ) (bits : ℕ) → bits < 2 → P (made 1 bits) → Parses (token (is_valued tokens refusal classes value)) P (word blank (truth bits))
  bit_read {P} blank bits lt p = by_bit (nat_eq bits 0) refl
    where
      zero_is : nat_eq bits 0 ≡ true → 0 ≡ bits
      zero_is e = grind arith

      one_is : nat_eq bits 0 ≡ false → 1 ≡ bits
      one_is e = grind (arith, lt)

      by_bit : (b : Bool) → nat_eq bits 0 ≡ b → Parses (token (is_valued tokens refusal classes value)) P (word blank (cond b (codes "false") (codes "true")))
      by_bit true e = single blank forms.Word _ _ (by_value refusal classes value forms.Word (codes "false") (there classes _ kinds.False false_class r.false_there) (λ t i. (made 1 bits, r.is_false t (i.kind ∙ false_class) ∙ ap (λ (n : ℕ). Some (made 1 n)) (zero_is e), p)))
      by_bit false e = single blank forms.Word _ _ (by_value refusal classes value forms.Word (codes "true") (there classes _ kinds.True true_class r.true_there) (λ t i. (made 1 bits, r.is_true t (i.kind ∙ true_class) ∙ ap (λ (n : ℕ). Some (made 1 n)) (one_is e), p)))

  decimal_read : {P : A → Type 0} (blank : List ℕ) (w bits : ℕ) → reg ≡ Int w → IsWidth w → bits < 2 ^ w → P (made w bits) → Parses (token (is_valued tokens refusal classes value)) P (signed_piece blank w bits)
  decimal_read blank w bits e width lt p =
      piece_read blank forms.Number (signed w bits) (signed_nonempty w bits) (by_value refusal classes value forms.Number (signed w bits) (there classes _ kinds.Number (number_class (signed w bits)) (r.number_there w e))
      (λ t i. (made w bits, r.is_number w e t (i.kind ∙ number_class (signed w bits)) ∙ ap (option_map (made w)) (ap (literal w) i.text ∙ signed_again w bits width lt), p)))

  pub number_read : {P : A → Type 0} (blank : List ℕ) (w bits : ℕ) → NumberReadable reg w bits → P (made w bits) → Parses (token (is_valued tokens refusal classes value)) P (printed.number blank w bits)
  number_read {P} blank w bits n p = by_width (nat_eq w 1) refl
    where
      is_one : nat_eq w 1 ≡ true → w ≡ 1
      is_one e = grind arith

      no_one : w ≡ 1 → nat_eq w 1 ≡ false → ⊥
      no_one one e = grind arith

      as_decimal : (w ≡ 1) ⊎ (reg ≡ Int w) → nat_eq w 1 ≡ false → Parses (token (is_valued tokens refusal classes value)) P (signed_piece blank w bits)
      as_decimal (inl one) e = absurd (no_one one e)
      as_decimal (inr i) e = decimal_read blank w bits i n.width n.bits p

      by_width : (b : Bool) → nat_eq w 1 ≡ b → Parses (token (is_valued tokens refusal classes value)) P (cond b (word blank (truth bits)) (signed_piece blank w bits))
      by_width true e = bit_read blank bits (subst (λ (v : ℕ). bits < 2 ^ v) (is_one e) n.bits) (subst (λ (v : ℕ). P (made v bits)) (is_one e) p)
      by_width false e = as_decimal n.typed e
