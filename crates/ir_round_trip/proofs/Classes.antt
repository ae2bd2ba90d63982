-- The classes of printed tokens.
use Rattle.std.proofs.Common.{◌≡◌, ℕ, zero, suc, ◌≤◌, Bool, true, false, ◌&&◌, cond, nat_eq, List, [], ◌∷◌, codes, decimal, refl, sym, ap, subst, ◌∙◌, arith}
use Rattle.std.specs.Fmt.{digits}
use Rattle.ir_lex.specs.Bytes.{has}
use Rattle.ir_lex.specs.TokenKinds.{number, kind_of, word_kind, listed_kind, words_2, words_3, words_4, words_5, global_kind, width_of}
use Rattle.ir_lex.specs.declared.token_kind.TokenKind.TheVariants as kinds
use Rattle.ir_lex.specs.declared.token.TokenForm.TheVariants as forms
use Rattle.ir_tree.specs.Names.{quoted}
use Rattle.ir_tree.specs.declared.instr.BinaryOp.{BinaryOp}
use Rattle.ir_tree.specs.declared.instr.BinaryOp.TheVariants as binary
use Rattle.ir_tree.specs.declared.instr.CastOp.{CastOp}
use Rattle.ir_tree.specs.declared.instr.CastOp.TheVariants as casts
use Rattle.ir_tree.specs.declared.instr.Predicate.{Predicate}
use Rattle.ir_tree.specs.declared.instr.Predicate.TheVariants as predicates
use Rattle.ir_print.specs.Instructions.{opcode, condition, conversion}
use Rattle.ir_print.specs.Tokens.{truth}
use Rattle.ir_round_trip.specs.Classes.{binary_class, predicate_class, cast_class, truth_class, integer_class, IsOrdinary}
use Rattle.ir_round_trip.specs.Printable.{IsName}
use Rattle.ir_round_trip.proofs.Quoted.{name_text}
use Rattle.ir_round_trip.proofs.Single.{no_number}

-- ---- words

pub opcode_class : (op : BinaryOp) → kind_of forms.Word (opcode op) [] ≡ binary_class op
unfolding kind_of word_kind listed_kind words_2 words_3 words_4
opcode_class binary.Add = refl
opcode_class binary.Sub = refl
opcode_class binary.Mul = refl
opcode_class binary.Shl = refl
opcode_class binary.Udiv = refl
opcode_class binary.Sdiv = refl
opcode_class binary.Lshr = refl
opcode_class binary.Ashr = refl
opcode_class binary.Urem = refl
opcode_class binary.Srem = refl
opcode_class binary.And = refl
opcode_class binary.Or = refl
opcode_class binary.Xor = refl

pub condition_class : (p : Predicate) → kind_of forms.Word (condition p) [] ≡ predicate_class p
unfolding kind_of word_kind listed_kind words_2 words_3
condition_class predicates.Eq = refl
condition_class predicates.Ne = refl
condition_class predicates.Ugt = refl
condition_class predicates.Uge = refl
condition_class predicates.Ult = refl
condition_class predicates.Ule = refl
condition_class predicates.Sgt = refl
condition_class predicates.Sge = refl
condition_class predicates.Slt = refl
condition_class predicates.Sle = refl

pub conversion_class : (op : CastOp) → kind_of forms.Word (conversion op) [] ≡ cast_class op
unfolding kind_of word_kind listed_kind words_4 words_5
conversion_class casts.Zext = refl
conversion_class casts.Sext = refl
conversion_class casts.Trunc = refl

pub bit_class : (bits : ℕ) → kind_of forms.Word (truth bits) [] ≡ truth_class bits
unfolding kind_of word_kind listed_kind words_4 words_5
bit_class bits = by_bit (nat_eq bits 0)
  where
    by_bit : (t : Bool) → kind_of forms.Word (cond t (codes "false") (codes "true")) [] ≡ cond t kinds.False kinds.True
    by_bit true = refl
    by_bit false = refl

-- ---- integers

-- the word of a width is of its class, and is read as the width
abbrev is_width_word : ℕ → Bool
is_width_word w = nat_eq (number (kind_of forms.Word (105 ∷ decimal w) [])) (number (integer_class w)) && nat_eq (width_of (decimal w)) w

abbrev are_width_words : ℕ → Bool
are_width_words zero = true
are_width_words (suc n) = is_width_word (suc n) && are_width_words n

both : (a b : Bool) → a && b ≡ true → (a ≡ true) × (b ≡ true)
both true b h = (refl, h)
both false b h = absurd cc

up_to : (n w : ℕ) → are_width_words n ≡ true → 1 ≤ w → w ≤ n → is_width_word w ≡ true
up_to zero w h some le = absurd (omega (arith, some, le))
up_to (suc n) w h some le = by_test (nat_eq w (suc n)) refl (λ lt. up_to n w (both (is_width_word (suc n)) (are_width_words n) h).1 some lt)
  where
    same : (w n : ℕ) → nat_eq w (suc n) ≡ true → w ≡ suc n
    same w n e = grind arith

    below : (w n : ℕ) → nat_eq w (suc n) ≡ false → w ≤ suc n → w ≤ n
    below w n e le = grind arith

    by_test : (t : Bool) → nat_eq w (suc n) ≡ t → (w ≤ n → is_width_word w ≡ true) → is_width_word w ≡ true
    by_test true e rec = subst (λ (x : ℕ). is_width_word x ≡ true) (sym (same w n e)) (both (is_width_word (suc n)) (are_width_words n) h).0
    by_test false e rec = rec (below w n e le)

all_widths : are_width_words 64 ≡ true
unfolding kind_of word_kind listed_kind words_2 words_3 has digits
all_widths = refl

equal : (a b : ℕ) → nat_eq a b ≡ true → a ≡ b
equal a b h = grind arith

pub width_class : (w : ℕ) → 1 ≤ w → w ≤ 64 → (number (kind_of forms.Word (105 ∷ decimal w) []) ≡ number (integer_class w)) × (width_of (decimal w) ≡ w)
width_class w some le =
    let h = both _ _ (up_to 64 w all_widths some le) in
    (equal _ _ h.0, equal _ _ h.1)

-- ---- names

pub global_class : (name : List ℕ) → IsName name → IsOrdinary name → kind_of forms.Global (64 ∷ quoted name) [] ≡ kinds.Global
unfolding kind_of global_kind
global_class name n o =
    let t = name_text name n in
    ap (λ (text : List ℕ). kind_of forms.Global (64 ∷ text) []) t.whole ∙ rw (no_number t.first t.others t.no_digit, t.means) o
