-- The alignment of a printed variable is read (LangRef, "Global Variables").
use Rattle.std.proofs.Common.{◌≡◌, ℕ, zero, suc, ◌^◌, ◌<◌, ◌≤◌, Bool, true, false, cond, not, ◌&&◌, nat_eq, Some, Option, Result, Ok, Err, List, [], ◌∷◌, decimal, refl, sym, ap, subst, ◌∙◌, arith, pow_mono, append-nil}
use Rattle.std.specs.List.{fold}
use Rattle.ir_parse_globals.specs.Variables as read
use Rattle.ir_parse_globals.specs.Variables.{further, with_align, tail}
use Rattle.ir_lex.specs.TokenKinds.{number, kind_of}
use Rattle.ir_lex.specs.Pieces.{Piece}
use Rattle.ir_lex.specs.Rows.{begins}
use Rattle.ir_lex.specs.declared.token_kind.TokenKind.{TokenKind}
use Rattle.ir_lex.specs.declared.token_kind.TokenKind.TheVariants as kinds
use Rattle.ir_lex.specs.declared.token.TokenForm.TheVariants as forms
use Rattle.ir_print.specs.Instructions.{aligned}
use Rattle.ir_print.specs.Tokens.{space, natural}
use Rattle.ir_parse_parts.specs.Classes.{refusal}
use Rattle.ir_parse_parts.specs.Decimals as read_decimal
use Rattle.ir_parse_parts.specs.Decimals.{ALIGNMENTS, alignment_of, is_alignment}
use Rattle.ir_tree.specs.Formed.{IsAlignment}
use Rattle.ir_parse_parts.specs.Alphabet.{contains}
use Rattle.ir_parse_parts.specs.declared.fault.TokenFault.{TokenFault}
use Rattle.ir_parse_parts.specs.declared.fault.TokenFault.TheVariants as faults
use Rattle.ir_parse_parts.specs.Forms.{Star, token}
use Rattle.ir_round_trip.specs.Reads.{Parses}
use Rattle.ir_round_trip.proofs.Composed.{then, last, nothing, left, right, no_more, one_more}
use Rattle.ir_round_trip.proofs.Numerals.{decimal_again, decimal_nonempty, no_minus}
use Rattle.ir_round_trip.proofs.Tokens.{piece_read}
use Rattle.ir_round_trip.proofs.Words.{comma_read, align_read}

-- ---- powers of two up to this one are alignments

abbrev is_power : ℕ → Bool
is_power k = contains ALIGNMENTS (2 ^ k)

abbrev are_powers : ℕ → Bool
are_powers zero = is_power zero
are_powers (suc k) = is_power (suc k) && are_powers k

both_true : (a b : Bool) → a && b ≡ true → (a ≡ true) × (b ≡ true)
both_true true b h = (refl, h)
both_true false b h = absurd cc

up_to : (n k : ℕ) → are_powers n ≡ true → k ≤ n → is_power k ≡ true
up_to zero k h le = subst (λ (x : ℕ). is_power x ≡ true) (zero_is k le) h
  where
    zero_is : (k : ℕ) → k ≤ 0 → 0 ≡ k
    zero_is k le = omega (arith, le)
up_to (suc n) k h le = by_test (nat_eq k (suc n)) refl (λ lt. up_to n k (both_true (is_power (suc n)) (are_powers n) h).1 lt)
  where
    same : nat_eq k (suc n) ≡ true → suc n ≡ k
    same e = grind arith

    below : nat_eq k (suc n) ≡ false → k ≤ n
    below e = grind (arith, le)

    by_test : (b : Bool) → nat_eq k (suc n) ≡ b → (k ≤ n → is_power k ≡ true) → is_power k ≡ true
    by_test true e rec = subst (λ (x : ℕ). is_power x ≡ true) (same e) (both_true (is_power (suc n)) (are_powers n) h).0
    by_test false e rec = rec (below e)

all_powers : are_powers 30 ≡ true
all_powers = refl

is_one : (n : ℕ) → IsAlignment n → contains ALIGNMENTS n ≡ true
is_one n a = ap (contains ALIGNMENTS) a.2 ∙ up_to 30 a.0 all_powers a.1

small : (k : ℕ) → k ≤ 30 → 2 ^ k < 2 ^ 64
small k le = omega (arith, pow_mono {i = k} {j = 30} le)

alignment_again : (n : ℕ) → IsAlignment n → alignment_of (decimal n) ≡ Ok n
unfolding alignment_of
alignment_again n a =
    let e : read_decimal.decimal (decimal n) ≡ n = decimal_again n (subst (λ (x : ℕ). x < 2 ^ 64) (sym a.2) (small a.0 a.1)) in
    by_tests (contains ALIGNMENTS (read_decimal.decimal (decimal n))) (begins 45 (decimal n)) (ap (contains ALIGNMENTS) e ∙ is_one n a) (no_minus n) ∙ ap ok e
  where
    ok : ℕ → Result ℕ TokenFault
    ok m = Ok m

    by_tests : (a b : Bool) → a ≡ true → b ≡ false → cond (a && not b) (ok (read_decimal.decimal (decimal n))) (Err faults.Number) ≡ ok (read_decimal.decimal (decimal n))
    by_tests true false p q = refl
    by_tests true true p q = absurd cc
    by_tests false b p q = absurd cc

pub alignment_read : (n : ℕ) → IsAlignment n → Parses (token is_alignment) (λ m. m ≡ n) (natural space n)
unfolding is_alignment kind_of
alignment_read n a = piece_read space forms.Number (decimal n) (decimal_nonempty n) (λ t i. (n, ap (λ (h : TokenKind). cond (nat_eq (number h) (number kinds.Number)) (alignment_of t.text) (Err (refusal (number h)))) i.kind ∙ ap alignment_of i.text ∙ alignment_again n a, refl))

-- ---- behind a variable

further_read : (n : ℕ) → IsAlignment n → Parses further (λ a. a ≡ Some n) (aligned n)
unfolding further read.aligned
further_read n h = then comma_read (λ a u. right _ (left _ (then (align_read space) (λ b v. last (alignment_read n h) (λ m e. nothing (ap Some e))))))

pub tail_read : (n : ℕ) → IsAlignment n → Parses tail (λ a. a ≡ Some n) (aligned n)
unfolding tail
tail_read n h = last one (λ all e. nothing (ap (fold with_align _) e))
  where
    one : Parses (Star further) (λ all. all ≡ Some n ∷ []) (aligned n)
    one = subst (λ (qs : List Piece). Parses (Star further) (λ all. all ≡ Some n ∷ []) qs) (append-nil (aligned n))
        (one_more (further_read n h) (no_more {P = λ more. more ≡ []} refl) (λ a more e f. ap (λ (x : Option ℕ). x ∷ more) e ∙ ap (λ (xs : List (Option ℕ)). Some n ∷ xs) f))
