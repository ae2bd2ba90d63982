-- No two numbers get one place.
use Rattle.std.proofs.Common.{◌≡◌, ℕ, ◌+◌, ◌<◌, ◌≤◌, ◌==◌, Bool, true, false, cond, List, [], ◌∷◌, Option, Some, None, length, refl, sym, ◌∙◌, ap, arith}
use Rattle.std.proofs.lemmas.Bool.Decides.{nat_tests}
use Rattle.ir_edit.specs.Numbered.{later_or, or_behind, place_from, new_number}
use Rattle.ir_edit.specs.OneToOne.{IsOneToOne}

test_at : (b : Bool) (z x n k : ℕ) → (z == x) ≡ b → cond b (Some n) None ≡ Some k → (n ≡ k) × (z ≡ x)
test_at true z x n k h e = (cc, grind (arith, nat_tests))
test_at false z x n k h e = absurd cc

abbrev IsWithin : ℕ → List ℕ → ℕ → Type 0
IsWithin n ys k = (n ≤ k) × (k < n + length ys)

bounds : (n : ℕ) (ys : List ℕ) (x k : ℕ) → place_from n ys x ≡ Some k → IsWithin n ys k
bounds n [] x k e = absurd cc
bounds n (y ∷ ys) x k e = at (λ j h. bounds (n + 1) ys x j h) (place_from (n + 1) ys x) refl e
  where
    at : ((j : ℕ) → place_from (n + 1) ys x ≡ Some j → IsWithin (n + 1) ys j) → (o : Option ℕ) → place_from (n + 1) ys x ≡ o → later_or o (cond (y == x) (Some n) None) ≡ Some k → IsWithin n (y ∷ ys) k
    at ih (Some j) h e =
        let here : IsWithin (n + 1) ys k = ih k (h ∙ e) in
        (omega (arith, here.0), omega (arith, here.1))
    at ih None h e =
        let here : (n ≡ k) × (y ≡ x) = test_at (y == x) y x n k refl e in
        (omega (arith, here.0), omega (arith, here.0))

one_place : (n : ℕ) (ys : List ℕ) (x y k : ℕ) → place_from n ys x ≡ Some k → place_from n ys y ≡ Some k → x ≡ y
one_place n [] x y k e f = absurd cc
one_place n (z ∷ zs) x y k e f =
    both (λ p q. one_place (n + 1) zs x y k p q) (place_from (n + 1) zs x) refl e (place_from (n + 1) zs y) refl f
  where
    both : (place_from (n + 1) zs x ≡ Some k → place_from (n + 1) zs y ≡ Some k → x ≡ y)
        → (o : Option ℕ) → place_from (n + 1) zs x ≡ o → later_or o (cond (z == x) (Some n) None) ≡ Some k
        → (u : Option ℕ) → place_from (n + 1) zs y ≡ u → later_or u (cond (z == y) (Some n) None) ≡ Some k
        → x ≡ y
    both ih (Some a) h e (Some b) g f = ih (h ∙ e) (g ∙ f)
    both ih (Some a) h e None g f =
        let there : IsWithin (n + 1) zs k = bounds (n + 1) zs x k (h ∙ e) in
        let here : (n ≡ k) × (z ≡ y) = test_at (z == y) z y n k refl f in
        absurd (omega (arith, there.0, here.0))
    both ih None h e (Some b) g f =
        let there : IsWithin (n + 1) zs k = bounds (n + 1) zs y k (g ∙ f) in
        let here : (n ≡ k) × (z ≡ x) = test_at (z == x) z x n k refl e in
        absurd (omega (arith, there.0, here.0))
    both ih None h e None g f = sym (test_at (z == x) z x n k refl e).1 ∙ (test_at (z == y) z y n k refl f).1

one_number : (numbers : List ℕ) (x y : ℕ) (o : Option ℕ) → place_from 0 numbers x ≡ o → (u : Option ℕ) → place_from 0 numbers y ≡ u → or_behind o (x + length numbers) ≡ or_behind u (y + length numbers) → x ≡ y
one_number numbers x y (Some j) h (Some k) g e = one_place 0 numbers x y k (h ∙ ap (λ (n : ℕ). Some n) e) g
one_number numbers x y (Some j) h None g e =
    let here : IsWithin 0 numbers j = bounds 0 numbers x j h in
    absurd (omega (arith, here.1, e))
one_number numbers x y None h (Some k) g e =
    let here : IsWithin 0 numbers k = bounds 0 numbers y k g in
    absurd (omega (arith, here.1, e))
one_number numbers x y None h None g e = omega (arith, e)

pub is_one_to_one : (numbers : List ℕ) → IsOneToOne (new_number numbers)
unfolding new_number
is_one_to_one numbers x y e = one_number numbers x y (place_from 0 numbers x) refl (place_from 0 numbers y) refl e
