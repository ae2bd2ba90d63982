-- Tests of two parts.
use Rattle.std.proofs.Common.{◌≡◌, ℕ, Bool, true, false, ◌&&◌, ◌||◌, ◌∙◌, ap}
use Rattle.lto_bits.specs.Operation.{value_or_poison, allowed}

-- the second part decides where the first is false
pub or_second : (x y z : Bool) → x ≡ false → y ≡ z → y ≡ x || z
or_second x y z p q = rw p q

-- answers of equal parts are equal
pub same_answer : (x y : Bool) (m n : ℕ) → x ≡ y → m ≡ n → value_or_poison (allowed x m) ≡ value_or_poison (allowed y n)
same_answer x y m n p q = ap (λ b. value_or_poison (allowed b m)) p ∙ ap (λ k. value_or_poison (allowed y k)) q

-- and so are those of two equal tests
pub same_answers : (x y u v : Bool) (m n : ℕ) → x ≡ u → y ≡ v → m ≡ n → value_or_poison (allowed (x && y) m) ≡ value_or_poison (allowed (u && v) n)
same_answers x y u v m n p q e = same_answer (x && y) (u && v) m n (ap (λ t. t && y) p ∙ ap (λ t. u && t) q) e

-- a test that holds may stand before another
pub and_before : (t x u : Bool) → t ≡ true → x ≡ u → x ≡ t && u
and_before t x u p q = rw p q
