-- Signed division in 64 bits.
use Rattle.std.proofs.Common.{◌≡◌, ℕ, zero, suc, ◌-◌, ◌*◌, ◌/◌, ◌^◌, ◌<◌, ◌≤◌, subst, arith, refl, sym, ◌∙◌, ap, ℤ, pos, negsuc, ◌-ℤ◌, w64, of_z, to_z, false, cond, ◌⊎◌, inl, inr}
use Rattle.std.specs.Prelude.{FitsSigned, nat_lt, int_div, int_rem, ◌==◌}
use Rattle.std.specs.Int.Signed.{mag}
use Rattle.std.proofs.Math.IntN.{neg_ℤ}
use Rattle.std.proofs.Math.Nat.{div-le_self}
use Rattle.std.proofs.lemmas.Nat.{div_below}
use Rattle.std.proofs.lemmas.Int.{ints, rem_is, quot_is, to_z-of_z}
use Rattle.std.proofs.lemmas.Bool.{ne_eqb, or_from, and_left, and_right}
use Rattle.lto_bits.specs.declared.operator.BinaryOp.TheVariants.{Sdiv}
use Rattle.lto_bits.specs.Operation.{breaks}
use Rattle.lto_bits.specs.Word.{signed}
use Rattle.lto_bits.proofs.Words.{half_within, signed_fits, doubled}

-- a division by another number than 0, and not of the least number by -1, is defined
pub breaks_not : (w a b : ℕ) → (b ≡ 0 → ⊥) → ((b ≡ 2 ^ w - 1 → ⊥) ⊎ (a ≡ 2 ^ (w - 1) → ⊥)) → breaks Sdiv w a b ≡ false
breaks_not w a b some (inl p) = and_left _ _ (or_from (b == 0) (b == 2 ^ w - 1) (ne_eqb b 0 some) (ne_eqb b (2 ^ w - 1) p))
breaks_not w a b some (inr p) = and_right _ _ (or_from (b == 0) (a == 2 ^ (w - 1)) (ne_eqb b 0 some) (ne_eqb a (2 ^ (w - 1)) p))

mag-neg : (n : ℕ) → mag (neg_ℤ (pos n)) ≡ n - 1
mag-neg zero = refl
mag-neg (suc n) = omega arith

-- the quotient fits but for the least number by -1
pub quotient_fits : (x y : ℤ) → FitsSigned w64 x → (y ≡ negsuc 0 → x ≡ negsuc (2 ^ 63 - 1) → ⊥) → FitsSigned w64 (int_div x y)
quotient_fits (pos a) (pos b) f h = record { sfits = omega (arith, div-le_self a b, f.sfits) }
quotient_fits (pos a) (negsuc b) f h = record { sfits = omega (arith, mag-neg (a / suc b), div-le_self a (suc b), f.sfits) }
quotient_fits (negsuc a) (pos b) f h = record { sfits = omega (arith, mag-neg (suc a / b), div-le_self (suc a) b, f.sfits) }
quotient_fits (negsuc a) (negsuc zero) f h =
    let least : a ≡ 2 ^ 63 - 1 → ⊥ = λ e. h refl (ap negsuc e) in
    record { sfits = omega (arith, least, div-le_self (suc a) 1, f.sfits) }
quotient_fits (negsuc a) (negsuc (suc b)) f h =
    let wide : suc a < 2 ^ 63 * suc (suc b) = omega (arith, f.sfits) in
    let some : 0 < suc (suc b) = omega arith in
    record { sfits = div_below (suc a) (suc (suc b)) (2 ^ 63) some wide }

-- only the number of all ones is -1, and only at 64 bits is a number the least one of 64 bits
minus_one : (h b : ℕ) → b < 2 * h → cond (nat_lt b h) (pos b) (pos b -ℤ pos (2 * h)) ≡ negsuc 0 → b ≡ 2 * h - 1
minus_one h b p e = grind (arith, ints)

least : (h a : ℕ) → h ≤ 2 ^ 63 → a < 2 * h → cond (nat_lt a h) (pos a) (pos a -ℤ pos (2 * h)) ≡ negsuc (2 ^ 63 - 1) → a ≡ h
least h a q p e = grind (arith, ints)

pub signed_quotient_fits : (w a b : ℕ) → 1 ≤ w → w ≤ 64 → a < 2 ^ w → b < 2 ^ w → ((b ≡ 2 ^ w - 1 → ⊥) ⊎ (a ≡ 2 ^ (w - 1) → ⊥)) → FitsSigned w64 (int_div (signed w a) (signed w b))
signed_quotient_fits w a b some within p q h =
    let double : 2 ^ w ≡ 2 * 2 ^ (w - 1) = doubled w some in
    let all_ones : signed w b ≡ negsuc 0 → b ≡ 2 ^ w - 1 =
    λ e. subst (λ m. cond (nat_lt b (2 ^ (w - 1))) (pos b) (pos b -ℤ pos m) ≡ negsuc 0 → b ≡ m - 1) (sym double) (minus_one (2 ^ (w - 1)) b (subst (λ m. b < m) double q)) e in
    let sign_alone : signed w a ≡ negsuc (2 ^ 63 - 1) → a ≡ 2 ^ (w - 1) =
    λ e. subst (λ m. cond (nat_lt a (2 ^ (w - 1))) (pos a) (pos a -ℤ pos m) ≡ negsuc (2 ^ 63 - 1) → a ≡ 2 ^ (w - 1)) (sym double) (least (2 ^ (w - 1)) a (half_within w some within) (subst (λ m. a < m) double p)) e in
    quotient_fits (signed w a) (signed w b) (signed_fits w a some within p)
    (λ e f. elim h [ inl other ↦ other (all_ones e) | inr other ↦ other (sign_alone f) ])

-- quotient and remainder, as the code computes them
pub remainder_in_64 : (s t x y : ℤ) → FitsSigned w64 x → FitsSigned w64 y → s ≡ x → t ≡ y → to_z w64 (of_z w64 (int_rem (to_z w64 (of_z w64 s)) (to_z w64 (of_z w64 t)))) ≡ int_rem x y
remainder_in_64 s t x y f g p q =
    ap (λ z. to_z w64 (of_z w64 (int_rem (to_z w64 (of_z w64 z)) (to_z w64 (of_z w64 t))))) p
    ∙ ap (λ z. to_z w64 (of_z w64 (int_rem (to_z w64 (of_z w64 x)) (to_z w64 (of_z w64 z))))) q
    ∙ rem_is w64 x y f g

pub quotient_in_64 : (s t x y : ℤ) → FitsSigned w64 x → FitsSigned w64 y → FitsSigned w64 (int_div x y) → s ≡ x → t ≡ y → to_z w64 (of_z w64 (int_div (to_z w64 (of_z w64 s)) (to_z w64 (of_z w64 t)))) ≡ int_div x y
quotient_in_64 s t x y f g h p q =
    ap (λ z. to_z w64 (of_z w64 (int_div (to_z w64 (of_z w64 z)) (to_z w64 (of_z w64 t))))) p
    ∙ ap (λ z. to_z w64 (of_z w64 (int_div (to_z w64 (of_z w64 x)) (to_z w64 (of_z w64 z))))) q
    ∙ quot_is w64 x y f g h

-- a word that isn't 0 isn't 0 as a signed number, nor are its bits
zero_alone : (h b : ℕ) → b < 2 * h → cond (nat_lt b h) (pos b) (pos b -ℤ pos (2 * h)) ≡ pos 0 → b ≡ 0
zero_alone h b p e = grind (arith, ints)

signed_some : (w b : ℕ) → 1 ≤ w → b < 2 ^ w → (b ≡ 0 → ⊥) → signed w b ≡ pos 0 → ⊥
signed_some w b some q other e =
    let double : 2 ^ w ≡ 2 * 2 ^ (w - 1) = doubled w some in
    other (subst (λ m. cond (nat_lt b (2 ^ (w - 1))) (pos b) (pos b -ℤ pos m) ≡ pos 0 → b ≡ 0) (sym double) (zero_alone (2 ^ (w - 1)) b (subst (λ m. b < m) double q)) e)

bits_some : (z : ℤ) → FitsSigned w64 z → (z ≡ pos 0 → ⊥) → 0 < of_z w64 z
bits_some z fits other = by (of_z w64 z) refl
  where
    by : (n : ℕ) → of_z w64 z ≡ n → 0 < n
    by zero e = absurd (other (sym (to_z-of_z w64 z fits) ∙ ap (to_z w64) e))
    by (suc n) e = omega arith

-- what the code divides by isn't 0, and the quotient fits
pub division_defined : (w a b : ℕ) (s t : ℤ) → 1 ≤ w → w ≤ 64 → a < 2 ^ w → b < 2 ^ w → (b ≡ 0 → ⊥) → ((b ≡ 2 ^ w - 1 → ⊥) ⊎ (a ≡ 2 ^ (w - 1) → ⊥)) → s ≡ signed w a → t ≡ signed w b
    → (0 < of_z w64 t) × FitsSigned w64 (int_div (to_z w64 (of_z w64 s)) (to_z w64 (of_z w64 t)))
division_defined w a b s t some within left right other defined p q =
    let first : FitsSigned w64 (signed w a) = signed_fits w a some within left in
    let second : FitsSigned w64 (signed w b) = signed_fits w b some within right in (
      subst (λ z. 0 < of_z w64 z) (sym q) (bits_some (signed w b) second (signed_some w b some right other)),
      subst (λ z. FitsSigned w64 z)
          (sym (ap (λ z. int_div (to_z w64 (of_z w64 z)) (to_z w64 (of_z w64 t))) p
          ∙ ap (λ z. int_div (to_z w64 (of_z w64 (signed w a))) (to_z w64 (of_z w64 z))) q
          ∙ ap (λ z. int_div z (to_z w64 (of_z w64 (signed w b)))) (to_z-of_z w64 (signed w a) first)
          ∙ ap (λ z. int_div (signed w a) z) (to_z-of_z w64 (signed w b) second)))
          (signed_quotient_fits w a b some within left right defined),
    )
