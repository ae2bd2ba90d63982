-- Numbers modulo 2 ^ 64, and the signed numbers of 64 bits that stand for them.
use Rattle.std.proofs.Common.{◌≡◌, ℕ, ◌%◌, ◌^◌, ◌≤◌, ◌<◌, ap, sym, ◌∙◌, refl, arith, ℤ, pos, negsuc, ◌+ℤ◌, ◌*ℤ◌, w64, of_z, to_z, FitsSigned, List, [], ◌∷◌, mod-eq_of_lt}
use Rattle.std.specs.Int.{int_wrap, int_wrapping_add, int_wrapping_mul}
use Rattle.std.proofs.lemmas.Int.{ints, int_wrap-add_same, int_wrap-add_right, int_wrap_fits, of_z-to_z, SFits-int_wrap, wrapping_add_is, wrapping_mul_is}
use Rattle.std.proofs.lemmas.Nat.{mod_below, pow_pos}
use Rattle.lto_bits.proofs.Words.{wrapped_bits}
use Rattle.ir_meaning.specs.Address.{sum_from}
use Rattle.lto_bits.specs.Word.{wrapped}

pub wrapped_below : (z : ℤ) → wrapped 64 z < 2 ^ 64
wrapped_below (pos n) = mod_below n (2 ^ 64) (pow_pos 64)
wrapped_below (negsuc n) = omega arith

wraps_to : (z : ℤ) → int_wrap w64 z ≡ to_z w64 (wrapped 64 z)
unfolding int_wrap
wraps_to (pos n) = refl
wraps_to (negsuc n) = refl

bits_wrapped : (z : ℤ) → of_z w64 (int_wrap w64 z) ≡ wrapped 64 z
bits_wrapped z = ap (of_z w64) (wraps_to z) ∙ of_z-to_z w64 (wrapped 64 z) (wrapped_below z)

pub wrapped_again : (z : ℤ) → wrapped 64 (int_wrap w64 z) ≡ wrapped 64 z
wrapped_again z =
    let all : 64 ≤ 64 = omega arith in
    sym (wrapped_bits 64 (int_wrap w64 z) all (SFits-int_wrap w64 z)) ∙ ap (λ n. n % 2 ^ 64) (bits_wrapped z) ∙ mod-eq_of_lt (wrapped_below z)

-- the bits of a signed number are what it wraps to
pub bits_are : (z : ℤ) → FitsSigned w64 z → of_z w64 z ≡ wrapped 64 z
bits_are z fits = ap (of_z w64) (sym (int_wrap_fits w64 z fits)) ∙ bits_wrapped z

pub signed_wraps : (n : ℕ) → n < 2 ^ 64 → wrapped 64 (to_z w64 n) ≡ n
signed_wraps n h =
    let small : n % 2 ^ 64 ≡ n = mod-eq_of_lt h in
    ap (λ m. wrapped 64 (to_z w64 m)) (sym small) ∙ ap (wrapped 64) (sym (wraps_to (pos n))) ∙ wrapped_again (pos n) ∙ small

-- sums depend on their parts modulo 2 ^ 64 alone
same_wrap : (a b : ℤ) → wrapped 64 a ≡ wrapped 64 b → int_wrap w64 a ≡ int_wrap w64 b
same_wrap a b e = wraps_to a ∙ ap (to_z w64) e ∙ sym (wraps_to b)

from_wrap : (a b : ℤ) → int_wrap w64 a ≡ int_wrap w64 b → wrapped 64 a ≡ wrapped 64 b
from_wrap a b e = sym (wrapped_again a) ∙ ap (wrapped 64) e ∙ wrapped_again b

pub sum_left : (a b d : ℤ) → wrapped 64 a ≡ wrapped 64 b → wrapped 64 (a +ℤ d) ≡ wrapped 64 (b +ℤ d)
sum_left a b d e = from_wrap (a +ℤ d) (b +ℤ d) (int_wrap-add_same w64 a b d (same_wrap a b e))

pub sum_right : (a b d : ℤ) → wrapped 64 a ≡ wrapped 64 b → wrapped 64 (d +ℤ a) ≡ wrapped 64 (d +ℤ b)
sum_right a b d e =
    from_wrap (d +ℤ a) (d +ℤ b)
    (sym (int_wrap-add_right w64 d a) ∙ ap (λ (z : ℤ). int_wrap w64 (d +ℤ z)) (same_wrap a b e) ∙ int_wrap-add_right w64 d b)

pub sum_wraps : (ds : List ℤ) (a b : ℤ) → wrapped 64 a ≡ wrapped 64 b → wrapped 64 (sum_from a ds) ≡ wrapped 64 (sum_from b ds)
sum_wraps [] a b e = e
sum_wraps (d ∷ ds) a b e = sum_wraps ds (a +ℤ d) (b +ℤ d) (sum_left a b d e)

-- what the code's wrapping sum and product give
pub sum_is : (a b : ℤ) → FitsSigned w64 a → FitsSigned w64 b → wrapped 64 (int_wrapping_add w64 a b) ≡ wrapped 64 (a +ℤ b)
sum_is a b f g = ap (wrapped 64) (wrapping_add_is w64 a b f g) ∙ wrapped_again (a +ℤ b)

pub product_is : (a b : ℤ) → FitsSigned w64 a → FitsSigned w64 b → wrapped 64 (int_wrapping_mul w64 a b) ≡ wrapped 64 (a *ℤ b)
product_is a b f g = ap (wrapped 64) (wrapping_mul_is w64 a b f g) ∙ wrapped_again (a *ℤ b)

pub small_is : (n : ℕ) → n ≤ 2 ^ 31 → to_z w64 n ≡ pos n
small_is n h = omega (arith, ints)

pub small_fits : (n : ℕ) → n ≤ 2 ^ 31 → FitsSigned w64 (pos n)
small_fits n h = omega (arith, ints)

-- a place that a wrapping step leads on
pub stepped : (place bytes by : ℤ) (ds : List ℤ) → FitsSigned w64 place → FitsSigned w64 bytes → wrapped 64 bytes ≡ wrapped 64 by →
    wrapped 64 (sum_from (int_wrapping_add w64 place bytes) ds) ≡ wrapped 64 (sum_from place (by ∷ ds))
stepped place bytes by ds f g e =
    sum_wraps ds (int_wrapping_add w64 place bytes) (place +ℤ by) (sum_is place bytes f g ∙ sum_right bytes by place e)

-- the offset of an object, moved by a first index
pub first_step : (offset : ℕ) (by bytes : ℤ) (ds : List ℤ) → offset < 2 ^ 64 → FitsSigned w64 (to_z w64 offset) → FitsSigned w64 by → wrapped 64 by ≡ wrapped 64 bytes →
    wrapped 64 (sum_from (int_wrapping_add w64 (to_z w64 offset) by) ds) ≡ wrapped 64 (sum_from (pos offset) (bytes ∷ ds))
first_step offset by bytes ds h f g e =
    stepped (to_z w64 offset) by bytes ds f g e ∙ sum_wraps (bytes ∷ ds) (to_z w64 offset) (pos offset) (signed_wraps offset h ∙ sym (mod-eq_of_lt h))
