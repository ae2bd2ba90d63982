-- Printed constants are read behind the scalar that they begin with (LangRef, "Constants", "Constant Expressions").
use Rattle.std.proofs.Common.{◌≡◌, ℕ, Bool, true, false, cond, nat_eq, Option, Some, None, option_map, Result, List, [], ◌∷◌, ◌++◌, codes, inl, inr, ◌⊎◌, refl, sym, ap, subst, ◌∙◌, arith}
use Rattle.ir_parse_globals.specs.Constants as read
use Rattle.ir_parse_globals.specs.Constants.{CONSTANTS, type_of, constant_by, constant_of, constant}
use Rattle.ir_lex.specs.TokenKinds.{number, kind_of, word_kind, listed_kind, words_4, words_6}
use Rattle.ir_lex.specs.Pieces.{Piece}
use Rattle.ir_lex.specs.Tok.{Tok}
use Rattle.ir_lex.specs.declared.token_kind.TokenKind.{TokenKind}
use Rattle.ir_lex.specs.declared.token_kind.TokenKind.TheVariants as kinds
use Rattle.ir_lex.specs.declared.token.TokenForm.TheVariants as forms
use Rattle.ir_print.specs.Operands as printed
use Rattle.ir_print.specs.Operands.{displaced}
use Rattle.ir_print.specs.Tokens.{word, global}
use Rattle.ir_parse_parts.specs.Classes.{tokens, refusal}
use Rattle.ir_parse_parts.specs.Literals.{literal}
use Rattle.ir_parse_parts.specs.Operands.{simple}
use Rattle.ir_parse_operands.specs.ShapeForms.{memory_shape}
use Rattle.ir_parse_operands.specs.Values as values
use Rattle.ir_parse_parts.specs.declared.raw.InitHead as raw_head
use Rattle.ir_parse_parts.specs.declared.raw.Operand.TheVariants as ro
use Rattle.ir_tree.specs.Names.{quoted}
use Rattle.ir_tree.specs.declared.operand.Operand.{Operand}
use Rattle.ir_tree.specs.declared.operand.Operand.TheVariants.{Local, Number, Null, Poison, Symbol}
use Rattle.ir_tree.specs.declared.operand.Reg.{Reg}
use Rattle.ir_tree.specs.declared.operand.Reg.TheVariants.{Int, Ptr}
use Rattle.ir_tree.specs.declared.operand.Symbol as tree_symbol
use Rattle.ir_parse_parts.specs.Alphabet.{contains}
use Rattle.ir_parse_parts.specs.declared.fault.TokenFault.{TokenFault}
use Rattle.ir_parse_parts.specs.Forms as form
use Rattle.ir_parse_parts.specs.Forms.{Form, token}
use Rattle.ir_parse_parts.specs.Rules.{is_valued}
use Rattle.ir_round_trip.specs.Variables.{IsInitHead}
use Rattle.ir_round_trip.specs.VariablesReadable.{ConstantReadable}
use Rattle.ir_tree.specs.declared.init_node.InitHead.TheVariants.{Plain}
use Rattle.ir_round_trip.proofs.Classes.{global_class}
use Rattle.ir_round_trip.specs.Texts.{tokens_before}
use Rattle.ir_round_trip.specs.PartsPrinted.{IsOperand}
use Rattle.ir_round_trip.specs.PartsReadable.{NumberReadable, SymbolReadable}
use Rattle.ir_round_trip.specs.Reads.{Parses}
use Rattle.ir_round_trip.proofs.Composed.{last, left, nothing, right}
use Rattle.ir_round_trip.proofs.PartsConstants.{ReadsNumbers, number_read}
use Rattle.ir_round_trip.proofs.PartsOperands.{operand_read}
use Rattle.ir_round_trip.proofs.Tokens.{Means, single, by_value}

-- ---- numbers

-- behind no scalar only words are read as what they say
abbrev numbers_type : Option Reg → Reg
numbers_type None = Ptr
numbers_type (Some r) = r

reads_numbers : (s : Option Reg) → ReadsNumbers (numbers_type s) CONSTANTS (constant_of s) (λ w bits. read.plain (ro.Number w bits))
reads_numbers s = record {
  true_there = refl;
  false_there = refl;
  is_true = λ t e. ap (λ (g : TokenKind). constant_by g s t) e;
  is_false = λ t e. ap (λ (g : TokenKind). constant_by g s t) e;
  number_there = λ w e. refl;
  is_number = λ w e t h. by_scalar s w e t h;
}
  where
    by_scalar : (s : Option Reg) (w : ℕ) → numbers_type s ≡ Int w → (t : Tok) → t.kind ≡ kinds.Number → constant_of s t ≡ option_map (λ bits. read.plain (ro.Number w bits)) (literal w t.text)
    by_scalar None w e t h = absurd cc
    by_scalar (Some r) w e t h = subst (λ (g : Reg). constant_of (Some g) t ≡ option_map (λ bits. read.plain (ro.Number w bits)) (literal w t.text)) (sym e) (ap (λ (g : TokenKind). constant_by g (Some (Int w)) t) h)

number_of_type : (s : Option Reg) (w bits : ℕ) → NumberReadable (type_of s) w bits → NumberReadable (numbers_type s) w bits
number_of_type (Some r) w bits h = h
number_of_type None w bits h = record { width = h.width; bits = h.bits; typed = inl (one_bit h.typed) }
  where
    same : Int 1 ≡ Int w → w ≡ 1
    same e = cc

    one_bit : (w ≡ 1) ⊎ (Int 1 ≡ Int w) → w ≡ 1
    one_bit (inl e) = e
    one_bit (inr e) = same e

-- ---- words

null_class : kind_of forms.Word (codes "null") [] ≡ kinds.Null
unfolding kind_of word_kind listed_kind words_4
null_class = refl

poison_class : kind_of forms.Word (codes "poison") [] ≡ kinds.Poison
unfolding kind_of word_kind listed_kind words_6
poison_class = refl

-- what a word of this class means
word_means : (s : Option Reg) (x : Operand) (text : List ℕ) (h : TokenKind) (o : raw_head.InitHead) → kind_of forms.Word text [] ≡ h → contains CONSTANTS (number h) ≡ true → ((t : Tok) → constant_by h s t ≡ Some o) → IsInitHead (Plain x) o → Means (is_valued tokens refusal CONSTANTS (constant_of s)) (IsInitHead (Plain x)) forms.Word text
word_means s x text h o e c m p =
    by_value refusal CONSTANTS (constant_of s) forms.Word text (ap (λ (g : TokenKind). contains CONSTANTS (number g)) e ∙ c)
    (λ t i. (o, ap (λ (g : TokenKind). constant_by g s t) (i.kind ∙ e) ∙ m t, p))

-- ---- symbols

-- two tokens are no single one
first_of_two : {A : Type 0} {g : Form Tok A} (meaning : Tok → Result A TokenFault) {P : A → Type 0} (p q : Piece) (ps : List Piece) → Parses (form.either g (token meaning)) P (p ∷ q ∷ ps) → Parses g P (p ∷ q ∷ ps)
unfolding form.either
first_of_two {A} {g} meaning p q ps r = record { value = λ behind line. let a = r.value behind line in (a.0, by_side behind line a.0 a.1, a.2) }
  where
    by_side : (behind : List Piece) (line : ℕ) (a : A) → g (tokens_before behind line (p ∷ q ∷ ps)) a ⊎ token meaning (tokens_before behind line (p ∷ q ∷ ps)) a → g (tokens_before behind line (p ∷ q ∷ ps)) a
    by_side behind line a (inl x) = x
    by_side behind line a (inr y) = absurd y

module _ (s : Option Reg) (blank : List ℕ) (symbol : tree_symbol.Symbol) (offset : ℕ) (h : SymbolReadable symbol.name offset) where
  is_zero : nat_eq offset 0 ≡ true → offset ≡ 0
  is_zero e = grind arith

  bare_read : nat_eq offset 0 ≡ true → Parses (read.single s) (IsInitHead (Plain (Symbol symbol offset))) (global blank symbol.name)
  bare_read e =
      let c = global_class symbol.name h.name h.ordinary in
      single blank forms.Global _ _ (by_value refusal CONSTANTS (constant_of s) forms.Global (64 ∷ quoted symbol.name) (ap (λ (g : TokenKind). contains CONSTANTS (number g)) c)
      (λ t i. (read.plain (ro.Global t), ap (λ (g : TokenKind). constant_by g s t) (i.kind ∙ c), (record { form = i.form; text = i.text }, is_zero e))))

  by_offset : (b : Bool) → nat_eq offset 0 ≡ b
      → Parses (form.either (values.address memory_shape) (simple Ptr)) (IsOperand (Symbol symbol offset)) (cond b (global blank symbol.name) (word blank (codes "getelementptr") ++ displaced symbol.name offset))
      → Parses (form.either (form.◌>>=◌ (values.address memory_shape) (λ v. form.gives (read.plain v))) (read.single s)) (IsInitHead (Plain (Symbol symbol offset))) (cond b (global blank symbol.name) (word blank (codes "getelementptr") ++ displaced symbol.name offset))
  by_offset true e r = right _ (bare_read e)
  by_offset false e r = left _ (last (first_of_two _ _ _ _ r) (λ v p. nothing p))

  symbol_read : Parses (constant memory_shape s) (IsInitHead (Plain (Symbol symbol offset))) (printed.address blank symbol.name offset)
  unfolding constant values.operand
  symbol_read = by_offset (nat_eq offset 0) refl (operand_read blank Ptr (Symbol symbol offset) h)

-- ---- constants

pub constant_read : (s : Option Reg) (blank : List ℕ) (x : Operand) → ConstantReadable (type_of s) x → Parses (constant memory_shape s) (IsInitHead (Plain x)) (printed.operand blank x)
unfolding constant
constant_read s blank (Local n) h = absurd h
constant_read s blank (Number w bits) h = right _ (number_read (reads_numbers s) blank w bits (number_of_type s w bits h) (refl, refl))
constant_read s blank Null h = right _ (single blank forms.Word _ _ (word_means s Null (codes "null") kinds.Null (read.plain ro.Null) null_class refl (λ t. refl) tt))
constant_read s blank (Poison r) h = right _ (single blank forms.Word _ _ (word_means s (Poison r) (codes "poison") kinds.Poison (read.plain (ro.Poison (type_of s))) poison_class refl (λ t. refl) (sym h)))
constant_read s blank (Symbol symbol offset) h = symbol_read s blank symbol offset h
