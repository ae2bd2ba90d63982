-- Words of a width in 64 bits.
use Rattle.std.proofs.Common.{◌≡◌, ℕ, suc, ◌+◌, ◌-◌, ◌*◌, ◌/◌, ◌%◌, ◌^◌, ◌<◌, ◌≤◌, subst, arith, refl, sym, ◌∙◌, ap, ℤ, pos, negsuc, ◌+ℤ◌, ◌-ℤ◌, ◌*ℤ◌, w64, of_z, to_z, leb, cond}
use Rattle.std.proofs.lemmas.Int.{ints, to_z-of_z, fits_signed_mul}
use Rattle.std.proofs.lemmas.Bool.Decides.{same_from_decides}
use Rattle.std.proofs.lemmas.Nat.{pow-add, mod-mul-add, shr_split, mod_below, pow_pos, div_below}
use Rattle.std.proofs.Math.Nat.{pow-succ', mod-mod_of_dvd, dvd-mul_left, add-mul-mod_self_right, le-div_iff_mul-le}
use Rattle.std.specs.Int.{◌∣◌, w128}
use Rattle.std.proofs.Math.Pow.{pow_mono}
use Rattle.std.proofs.lemmas.Bool.{leb-true, le-leb, ltb-true, lt-ltb}
use Rattle.std.specs.Bool.{Decides}
use Rattle.std.specs.Prelude.{FitsSigned, nat_lt, unsigned_abs}
use Rattle.lto_bits.specs.Word.{wrapped, signed}

-- a greater power of two is a multiple of a power of two
pub pow_apart : (w k : ℕ) → w ≤ k → 2 ^ (k - w) * 2 ^ w ≡ 2 ^ k
pow_apart w k h =
    let e : (k - w) + w ≡ k = omega arith in
    sym (pow-add 2 (k - w) w) ∙ ap (λ n. 2 ^ n) e

pub pow-divides : (w k : ℕ) → w ≤ k → 2 ^ w ∣ 2 ^ k
pow-divides w k h = subst (λ n. 2 ^ w ∣ n) (pow_apart w k h) (dvd-mul_left (2 ^ w) (2 ^ (k - w)))

-- what wraps at 64 bits and then at w bits wraps at w bits
pub wrapped_twice : (x w : ℕ) → w ≤ 64 → x % 2 ^ 64 % 2 ^ w ≡ x % 2 ^ w
wrapped_twice x w h = mod-mod_of_dvd (2 ^ w) x (pow-divides w 64 h)

-- the remainder of a number's complement is the complement of its remainder
complement_parts : (p q d r : ℕ) → r < p → ((q + 1 + d) * p - suc (q * p + r)) % p ≡ p - 1 - r
complement_parts p q d r h =
    let e : (q + 1 + d) * p - suc (q * p + r) ≡ d * p + (p - 1 - r) = omega arith in
    let low : p - 1 - r < p = omega arith in
    ap (λ n. n % p) e ∙ mod-mul-add d p (p - 1 - r) low

complement_at : (p k n q d r : ℕ) → r < p → q * p + r ≡ n → q + 1 + d ≡ k → (k * p - suc n) % p ≡ p - 1 - r
complement_at p k n q d r h e f = subst (λ n. (k * p - suc n) % p ≡ p - 1 - r) e (subst (λ k. (k * p - suc (q * p + r)) % p ≡ p - 1 - r) f (complement_parts p q d r h))

pub complement_mod : (n w : ℕ) → w ≤ 64 → n < 2 ^ 64 → (2 ^ 64 - suc n) % 2 ^ w ≡ 2 ^ w - 1 - n % 2 ^ w
complement_mod n w h below =
    let whole : 2 ^ (64 - w) * 2 ^ w ≡ 2 ^ 64 = pow_apart w 64 h in
    let high : n / 2 ^ w < 2 ^ (64 - w) = div_below n (2 ^ w) (2 ^ (64 - w)) (pow_pos w) (subst (λ m. n < m) (sym whole) below) in
    let rest : n / 2 ^ w + 1 + (2 ^ (64 - w) - 1 - n / 2 ^ w) ≡ 2 ^ (64 - w) = omega arith in
    subst (λ m. (m - suc n) % 2 ^ w ≡ 2 ^ w - 1 - n % 2 ^ w) whole
    (complement_at (2 ^ w) (2 ^ (64 - w)) n (n / 2 ^ w) (2 ^ (64 - w) - 1 - n / 2 ^ w) (n % 2 ^ w) (mod_below n (2 ^ w) (pow_pos w)) (shr_split n w) rest)

-- the bits of a signed 64-bit number wrap as the number does
pub wrapped_bits : (w : ℕ) (z : ℤ) → w ≤ 64 → FitsSigned w64 z → of_z w64 z % 2 ^ w ≡ wrapped w z
wrapped_bits w (pos n) h fits = refl
wrapped_bits w (negsuc n) h fits = complement_mod n w h (omega (arith, fits))

-- a difference wraps at w bits as it does at 64
difference_parts : (a b p k : ℕ) → b < p → a + ((k + 1) * p - b) ≡ (a + p - b) + k * p
difference_parts a b p k h = omega arith

pub difference_mod : (a b w : ℕ) → w ≤ 64 → b < 2 ^ w → (a + (2 ^ 64 - b)) % 2 ^ 64 % 2 ^ w ≡ (a + 2 ^ w - b) % 2 ^ w
difference_mod a b w h below =
    let whole : 2 ^ (64 - w) * 2 ^ w ≡ 2 ^ 64 = pow_apart w 64 h in
    let some : (2 ^ (64 - w) - 1) + 1 ≡ 2 ^ (64 - w) = omega (arith, pow_pos (64 - w)) in
    let e : a + (2 ^ 64 - b) ≡ (a + 2 ^ w - b) + (2 ^ (64 - w) - 1) * 2 ^ w =
    subst (λ m. a + (m - b) ≡ (a + 2 ^ w - b) + (2 ^ (64 - w) - 1) * 2 ^ w) (ap (λ k. k * 2 ^ w) some ∙ whole) (difference_parts a b (2 ^ w) (2 ^ (64 - w) - 1) below) in
    wrapped_twice (a + (2 ^ 64 - b)) w h ∙ ap (λ m. m % 2 ^ w) e ∙ add-mul-mod_self_right (a + 2 ^ w - b) (2 ^ (64 - w) - 1) (2 ^ w)

-- a signed value of at most 64 bits fits them
pub half_within : (w : ℕ) → 1 ≤ w → w ≤ 64 → 2 ^ (w - 1) ≤ 2 ^ 63
half_within w some within =
    let e : w - 1 ≤ 63 = omega arith in
    pow_mono e

pub doubled : (w : ℕ) → 1 ≤ w → 2 ^ w ≡ 2 * 2 ^ (w - 1)
doubled w some =
    let next : suc (w - 1) ≡ w = omega arith in
    sym (ap (λ n. 2 ^ n) next) ∙ pow-succ' 2 (w - 1)

signed_parts : (h a : ℕ) → h ≤ 2 ^ 63 → a < 2 * h → FitsSigned w64 (cond (nat_lt a h) (pos a) (pos a -ℤ pos (2 * h)))
signed_parts h a p q = grind (arith, ints)

pub signed_fits : (w a : ℕ) → 1 ≤ w → w ≤ 64 → a < 2 ^ w → FitsSigned w64 (signed w a)
signed_fits w a some within below =
    let double : 2 ^ w ≡ 2 * 2 ^ (w - 1) = doubled w some in
    subst (λ m. FitsSigned w64 (cond (nat_lt a (2 ^ (w - 1))) (pos a) (pos a -ℤ pos m))) (sym double)
    (signed_parts (2 ^ (w - 1)) a (half_within w some within) (subst (λ m. a < m) double below))

-- sums, differences and products of 64-bit numbers stand in 128 bits as they are
pub converted : (f s x : ℤ) → FitsSigned w64 x → f ≡ to_z w64 (of_z w64 s) → s ≡ x → f ≡ x
converted f s x fits p q = p ∙ ap (λ z. to_z w64 (of_z w64 z)) q ∙ to_z-of_z w64 x fits

wide_sum : (x y : ℤ) → FitsSigned w64 x → FitsSigned w64 y → to_z w128 (of_z w128 (to_z w128 (of_z w128 x) +ℤ to_z w128 (of_z w128 y))) ≡ x +ℤ y
wide_sum x y fits fits' = omega (arith, ints)

wide_difference : (x y : ℤ) → FitsSigned w64 x → FitsSigned w64 y → to_z w128 (of_z w128 (to_z w128 (of_z w128 x) -ℤ to_z w128 (of_z w128 y))) ≡ x -ℤ y
wide_difference x y fits fits' = omega (arith, ints)

wide : (x : ℤ) → FitsSigned w64 x → to_z w128 (of_z w128 x) ≡ x
wide x fits = omega (arith, ints)

abs_within : (x : ℤ) → FitsSigned w64 x → unsigned_abs x ≤ 2 ^ 63
abs_within (pos n) fits = omega (arith, ints)
abs_within (negsuc n) fits = omega (arith, ints)

wide_product : (x y : ℤ) → FitsSigned w64 x → FitsSigned w64 y → to_z w128 (of_z w128 (to_z w128 (of_z w128 x) *ℤ to_z w128 (of_z w128 y))) ≡ x *ℤ y
wide_product x y fits fits' =
    ap (λ z. to_z w128 (of_z w128 (z *ℤ to_z w128 (of_z w128 y)))) (wide x fits)
    ∙ ap (λ z. to_z w128 (of_z w128 (x *ℤ z))) (wide y fits')
    ∙ to_z-of_z w128 (x *ℤ y) (fits_signed_mul w128 x y (2 ^ 63) (2 ^ 63) (abs_within x fits) (abs_within y fits') (omega arith))

-- a shifted number is below a power of two where the number is below the shifted mask
pub shifted_below : (a b w g : ℕ) → g ≡ 2 ^ w - 1 → leb a (g / 2 ^ b) ≡ nat_lt (a * 2 ^ b) (2 ^ w)
shifted_below a b w g e =
    let bound : 0 < 2 ^ w = pow_pos w in
    let by_division : Decides (leb a ((2 ^ w - 1) / 2 ^ b)) (a * 2 ^ b ≤ 2 ^ w - 1) =
    (λ h. (le-div_iff_mul-le (pow_pos b)).0 (leb-true _ _ h), λ h. le-leb _ _ ((le-div_iff_mul-le (pow_pos b)).1 h)) in
    let by_product : Decides (nat_lt (a * 2 ^ b) (2 ^ w)) (a * 2 ^ b ≤ 2 ^ w - 1) =
    (λ h. omega (arith, ltb-true (a * 2 ^ b) (2 ^ w) h), λ h. lt-ltb (a * 2 ^ b) (2 ^ w) (omega arith)) in
    subst (λ m. leb a (m / 2 ^ b) ≡ nat_lt (a * 2 ^ b) (2 ^ w)) (sym e) (same_from_decides _ _ by_division by_product)

pub sum_in_128 : (f g x y : ℤ) → FitsSigned w64 x → FitsSigned w64 y → f ≡ x → g ≡ y → to_z w128 (of_z w128 (to_z w128 (of_z w128 f) +ℤ to_z w128 (of_z w128 g))) ≡ x +ℤ y
sum_in_128 f g x y fits fits' p q = ap (λ z. to_z w128 (of_z w128 (to_z w128 (of_z w128 z) +ℤ to_z w128 (of_z w128 g)))) p ∙ ap (λ z. to_z w128 (of_z w128 (to_z w128 (of_z w128 x) +ℤ to_z w128 (of_z w128 z)))) q ∙ wide_sum x y fits fits'

pub difference_in_128 : (f g x y : ℤ) → FitsSigned w64 x → FitsSigned w64 y → f ≡ x → g ≡ y → to_z w128 (of_z w128 (to_z w128 (of_z w128 f) -ℤ to_z w128 (of_z w128 g))) ≡ x -ℤ y
difference_in_128 f g x y fits fits' p q = ap (λ z. to_z w128 (of_z w128 (to_z w128 (of_z w128 z) -ℤ to_z w128 (of_z w128 g)))) p ∙ ap (λ z. to_z w128 (of_z w128 (to_z w128 (of_z w128 x) -ℤ to_z w128 (of_z w128 z)))) q ∙ wide_difference x y fits fits'

pub product_in_128 : (f g x y : ℤ) → FitsSigned w64 x → FitsSigned w64 y → f ≡ x → g ≡ y → to_z w128 (of_z w128 (to_z w128 (of_z w128 f) *ℤ to_z w128 (of_z w128 g))) ≡ x *ℤ y
product_in_128 f g x y fits fits' p q = ap (λ z. to_z w128 (of_z w128 (to_z w128 (of_z w128 z) *ℤ to_z w128 (of_z w128 g)))) p ∙ ap (λ z. to_z w128 (of_z w128 (to_z w128 (of_z w128 x) *ℤ to_z w128 (of_z w128 z)))) q ∙ wide_product x y fits fits'

-- a power of two that is a number of 64 bits stands in 128 bits as it is
power_within : (b : ℕ) → b < 64 → 2 ^ b ≤ 2 ^ 63
power_within b h =
    let e : b ≤ 63 = omega arith in
    pow_mono e

power_in_64 : (b : ℕ) → b < 64 → 1 * 2 ^ b % 2 ^ 64 ≡ 2 ^ b
power_in_64 b h = omega (arith, power_within b h)

power_in_128 : (b : ℕ) → b < 64 → to_z w128 (of_z w128 (pos (2 ^ b))) ≡ pos (2 ^ b)
power_in_128 b h = to_z-of_z w128 (pos (2 ^ b)) (record { sfits = omega (arith, power_within b h) })

-- a shifted number is the product with a power of two, which stands in 128 bits
shifted_fits : (x : ℤ) (b : ℕ) → FitsSigned w64 x → b < 64 → FitsSigned w128 (x *ℤ pos (2 ^ b))
shifted_fits x b fits h = fits_signed_mul w128 x (pos (2 ^ b)) (2 ^ 63) (2 ^ 63) (abs_within x fits) (power_within b h) (omega arith)

shifted_is : (f t x : ℤ) (b : ℕ) → FitsSigned w64 x → b < 64 → f ≡ x → t ≡ pos (1 * 2 ^ b % 2 ^ 64) → to_z w128 (of_z w128 f) *ℤ to_z w128 (of_z w128 t) ≡ x *ℤ pos (2 ^ b)
shifted_is f t x b fits h p q =
    ap (λ z. to_z w128 (of_z w128 z) *ℤ to_z w128 (of_z w128 t)) p
    ∙ ap (λ z. z *ℤ to_z w128 (of_z w128 t)) (wide x fits)
    ∙ ap (λ z. x *ℤ to_z w128 (of_z w128 z)) (q ∙ ap pos (power_in_64 b h))
    ∙ ap (λ z. x *ℤ z) (power_in_128 b h)

pub shifted_within : (f t x : ℤ) (b : ℕ) → FitsSigned w64 x → b < 64 → f ≡ x → t ≡ pos (1 * 2 ^ b % 2 ^ 64) → FitsSigned w128 (to_z w128 (of_z w128 f) *ℤ to_z w128 (of_z w128 t))
shifted_within f t x b fits h p q = subst (λ z. FitsSigned w128 z) (sym (shifted_is f t x b fits h p q)) (shifted_fits x b fits h)

pub shifted_in_128 : (f t x : ℤ) (b : ℕ) → FitsSigned w64 x → b < 64 → f ≡ x → t ≡ pos (1 * 2 ^ b % 2 ^ 64) → to_z w128 (of_z w128 (to_z w128 (of_z w128 f) *ℤ to_z w128 (of_z w128 t))) ≡ x *ℤ pos (2 ^ b)
shifted_in_128 f t x b fits h p q = ap (λ z. to_z w128 (of_z w128 z)) (shifted_is f t x b fits h p q) ∙ to_z-of_z w128 (x *ℤ pos (2 ^ b)) (shifted_fits x b fits h)
