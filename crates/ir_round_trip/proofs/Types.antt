-- Printed types are read (LangRef, "Type System").
use Rattle.std.proofs.Common.{◌≡◌, ℕ, ◌≤◌, min, max, Bool, true, false, cond, nat_eq, Option, Some, None, List, ◌∷◌, drop, codes, decimal, refl, sym, ap, subst, ◌∙◌, arith, inl, inr}
use Rattle.ir_lex.specs.TokenKinds.{number, kind_of, word_kind, listed_kind, words_3, words_4, width_of}
use Rattle.ir_lex.specs.Tok.{Tok}
use Rattle.ir_lex.specs.declared.token_kind.TokenKind.TheVariants as kinds
use Rattle.ir_lex.specs.declared.token.TokenForm.TheVariants as forms
use Rattle.ir_print.specs.Tokens.{space, word, width}
use Rattle.ir_print.specs.Types.{register, result}
use Rattle.ir_parse_parts.specs.Operands as read
use Rattle.ir_parse_parts.specs.Operands.{INTEGER, REG, SCALAR, RESULT, type_refusal, memory_refusal, reg_of, is_bit, result_of}
use Rattle.ir_parse_operands.specs.Values.{pointer}
use Rattle.ir_tree.specs.Formed.{IsWidth, IsReg, IsResult, IsStored, IsScalar}
use Rattle.ir_tree.specs.declared.operand.Reg.{Reg}
use Rattle.ir_tree.specs.declared.operand.Reg.TheVariants.{Int, Ptr}
use Rattle.ir_parse_parts.specs.Alphabet.{contains}
use Rattle.ir_round_trip.specs.Classes.{is_stored, integer_class}
use Rattle.ir_round_trip.proofs.Classes.{width_class}
use Rattle.ir_round_trip.specs.Reads.{Parses, Any}
use Rattle.ir_round_trip.proofs.Tokens.{IsToken, class_of, single, by_class, by_classes, by_test}

abbrev pub width_text : ℕ → List ℕ
width_text w = 105 ∷ decimal w

-- ---- widths

-- the class of iN
pub width_is_class : (w : ℕ) → IsWidth w → class_of forms.Word (width_text w) ≡ number (integer_class w)
width_is_class w h = (width_class w h.0 h.1).0

-- whatever is true of both classes of integers
either_class : (P : ℕ → Type 0) (w : ℕ) → P (number kinds.MemoryInteger) → P (number kinds.RegisterInteger) → P (number (integer_class w))
either_class P w p q = by_test (is_stored w)
  where
    by_test : (b : Bool) → P (number (cond b kinds.MemoryInteger kinds.RegisterInteger))
    by_test true = p
    by_test false = q

pub integer_in : (classes : List ℕ) (w : ℕ) → IsWidth w → contains classes (number kinds.MemoryInteger) ≡ true → contains classes (number kinds.RegisterInteger) ≡ true → contains classes (class_of forms.Word (width_text w)) ≡ true
integer_in classes w h p q = ap (contains classes) (width_is_class w h) ∙ either_class (λ n. contains classes n ≡ true) w p q

stored : (w : ℕ) → IsStored w → is_stored w ≡ true
stored w (inl e) = subst (λ n. is_stored n ≡ true) (sym e) refl
stored w (inr (inl e)) = subst (λ n. is_stored n ≡ true) (sym e) refl
stored w (inr (inr (inl e))) = subst (λ n. is_stored n ≡ true) (sym e) refl
stored w (inr (inr (inr e))) = subst (λ n. is_stored n ≡ true) (sym e) refl

pub stored_width : (w : ℕ) → IsStored w → IsWidth w
stored_width w (inl e) = (omega (arith, e), omega (arith, e))
stored_width w (inr (inl e)) = (omega (arith, e), omega (arith, e))
stored_width w (inr (inr (inl e))) = (omega (arith, e), omega (arith, e))
stored_width w (inr (inr (inr e))) = (omega (arith, e), omega (arith, e))

pub stored_class : (w : ℕ) → IsStored w → class_of forms.Word (width_text w) ≡ number kinds.MemoryInteger
stored_class w s = width_is_class w (stored_width w s) ∙ ap (λ (b : Bool). number (cond b kinds.MemoryInteger kinds.RegisterInteger)) (stored w s)

-- the width that the token of iN has
pub width_again : (w : ℕ) → IsWidth w → (t : Tok) → IsToken forms.Word (width_text w) t → read.width t ≡ w
width_again w h t i =
    ap (λ (text : List ℕ). min 64 (max 1 (width_of (drop 1 text)))) i.text
    ∙ ap (λ (n : ℕ). min 64 (max 1 n)) (width_class w h.0 h.1).1
    ∙ within w h.0 h.1
  where
    within : (w : ℕ) → 1 ≤ w → w ≤ 64 → min 64 (max 1 w) ≡ w
    within w some le = omega (arith, some, le)

-- the type that a token of this class has
reg_by : (t : Tok) → nat_eq (number t.kind) (number kinds.Ptr) ≡ false → reg_of t ≡ Int (read.width t)
reg_by t e = ap (λ (b : Bool). cond b Ptr (Int (read.width t))) e

no_pointer : (w : ℕ) → nat_eq (number (integer_class w)) (number kinds.Ptr) ≡ false
no_pointer w = either_class (λ n. nat_eq n (number kinds.Ptr) ≡ false) w refl refl

pub integer_again : (w : ℕ) → IsWidth w → (t : Tok) → IsToken forms.Word (width_text w) t → reg_of t ≡ Int w
integer_again w h t i =
    reg_by t (ap (λ (n : ℕ). nat_eq n (number kinds.Ptr)) (ap number i.kind ∙ width_is_class w h) ∙ no_pointer w)
    ∙ ap Int (width_again w h t i)

-- ---- pointers

abbrev pub pointer_text : List ℕ
pointer_text = codes "ptr"

pub pointer_class : class_of forms.Word pointer_text ≡ number kinds.Ptr
unfolding kind_of word_kind listed_kind words_3
pointer_class = refl

pub pointer_again : (t : Tok) → IsToken forms.Word pointer_text t → reg_of t ≡ Ptr
pointer_again t i = ap (λ (n : ℕ). cond (nat_eq n (number kinds.Ptr)) Ptr (Int (read.width t))) (ap number i.kind ∙ pointer_class)

pub pointer_read : (blank : List ℕ) → Parses pointer Any (word blank pointer_text)
pointer_read blank = single blank forms.Word _ _ (by_class type_refusal kinds.Ptr forms.Word pointer_text pointer_class)

-- ---- types of registers

pub integer_read : (blank : List ℕ) (w : ℕ) → IsWidth w → Parses read.integer (λ v. v ≡ w) (width blank w)
integer_read blank w h = single blank forms.Word _ _ (by_classes type_refusal INTEGER read.width forms.Word (width_text w) (integer_in INTEGER w h refl refl) (λ t i. width_again w h t i))

abbrev one_bit : IsWidth 1
one_bit = (omega arith, omega arith)

pub bit_read : (blank : List ℕ) → Parses read.bit (λ v. v ≡ 1) (width blank 1)
bit_read blank = single blank forms.Word _ _ (by_test type_refusal INTEGER is_bit read.width forms.Word (width_text 1) (integer_in INTEGER 1 one_bit refl refl) (λ t i. (ap (λ (n : ℕ). nat_eq n 1) (width_again 1 one_bit t i), width_again 1 one_bit t i)))

pub register_read : (blank : List ℕ) (reg : Reg) → IsReg reg → Parses read.reg (λ r. r ≡ reg) (register blank reg)
register_read blank (Int w) h = single blank forms.Word _ _ (by_classes type_refusal REG reg_of forms.Word (width_text w) (integer_in REG w h refl refl) (λ t i. integer_again w h t i))
register_read blank Ptr h = single blank forms.Word _ _ (by_classes type_refusal REG reg_of forms.Word pointer_text (ap (contains REG) pointer_class) (λ t i. pointer_again t i))

pub scalar_read : (blank : List ℕ) (reg : Reg) → IsScalar reg → Parses read.scalar (λ r. r ≡ reg) (register blank reg)
scalar_read blank (Int w) s = single blank forms.Word _ _ (by_classes memory_refusal SCALAR reg_of forms.Word (width_text w) (ap (contains SCALAR) (stored_class w s)) (λ t i. integer_again w (stored_width w s) t i))
scalar_read blank Ptr s = single blank forms.Word _ _ (by_classes memory_refusal SCALAR reg_of forms.Word pointer_text (ap (contains SCALAR) pointer_class) (λ t i. pointer_again t i))

-- ---- results

abbrev void_text : List ℕ
void_text = codes "void"

void_class : class_of forms.Word void_text ≡ number kinds.Void
unfolding kind_of word_kind listed_kind words_4
void_class = refl

no_void : (w : ℕ) → nat_eq (number (integer_class w)) (number kinds.Void) ≡ false
no_void w = either_class (λ n. nat_eq n (number kinds.Void) ≡ false) w refl refl

result_by : (t : Tok) (reg : Reg) → nat_eq (number t.kind) (number kinds.Void) ≡ false → reg_of t ≡ reg → result_of t ≡ Some reg
result_by t reg e r = ap (λ (b : Bool). cond b None (Some (reg_of t))) e ∙ ap Some r

pub result_read : (r : Option Reg) → IsResult r → Parses read.result (λ x. x ≡ r) (result r)
result_read None h = single space forms.Word _ _ (by_classes type_refusal RESULT result_of forms.Word void_text (ap (contains RESULT) void_class) (λ t i. ap (λ (n : ℕ). cond (nat_eq n (number kinds.Void)) None (Some (reg_of t))) (ap number i.kind ∙ void_class)))
result_read (Some (Int w)) h = single space forms.Word _ _ (by_classes type_refusal RESULT result_of forms.Word (width_text w) (integer_in RESULT w h refl refl) (λ t i. result_by t (Int w) (ap (λ (n : ℕ). nat_eq n (number kinds.Void)) (ap number i.kind ∙ width_is_class w h) ∙ no_void w) (integer_again w h t i)))
result_read (Some Ptr) h = single space forms.Word _ _ (by_classes type_refusal RESULT result_of forms.Word pointer_text (ap (contains RESULT) pointer_class) (λ t i. result_by t Ptr (ap (λ (n : ℕ). nat_eq n (number kinds.Void)) (ap number i.kind ∙ pointer_class)) (pointer_again t i)))
