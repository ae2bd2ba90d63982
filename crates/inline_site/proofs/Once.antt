-- In a formed function each number stands once, and below the first free one.
use Rattle.std.proofs.Common.{◌≡◌, ℕ, suc, ◌+◌, ◌<◌, ◌≤◌, max, ◌==◌, nat_eq, Bool, true, false, List, [], ◌∷◌, ◌++◌, Option, Some, None, length, refl, ◌∙◌, ap, arith, if◌then◌else◌}
use Rattle.std.specs.Prelude.{flat_map}
use Rattle.std.proofs.lemmas.Bool.Decides.{nat_tests}
use Rattle.ir_tree.specs.Flow.{definitions, locals, parameters, room}
use Rattle.ir_tree.specs.Formed.{Formed, numbers}
use Rattle.ir_tree.specs.declared.function.Function.{Function}
use Rattle.ir_edit.specs.Numbered.{later_or, param_numbers, place_from}
use Rattle.ir_edit.proofs.Tally.{tally, tally_both, tally_once, tally_same}
use Rattle.ir_edit.proofs.Counting.{params_are}

-- each number is a parameter's, a result's or a block's, and all of them are once
pub once_each : (f : Function) → Formed f → (x : ℕ) → tally x (param_numbers f.params) + (tally x (flat_map definitions f.blocks) + tally x (numbers f)) ≤ 1
once_each f formed x =
    let most : tally x (locals f ++ numbers f) ≤ 1 = tally_once x (locals f ++ numbers f) formed.once in
    let all : tally x (locals f ++ numbers f) ≡ tally x (locals f) + tally x (numbers f) = tally_both x (locals f) (numbers f) in
    let parts : tally x (locals f) ≡ tally x (parameters f) + tally x (flat_map definitions f.blocks) = tally_both x (parameters f) (flat_map definitions f.blocks) in
    let params : tally x (param_numbers f.params) ≡ tally x (parameters f) = ap (tally x) (params_are f.params) in
    omega (arith, most, all, parts, params)

-- ---- numbers in a list

same : (x y : ℕ) → nat_eq x y ≡ true → x ≡ y
same x y h = grind (arith, nat_tests)

other : (x y : ℕ) → nat_eq x y ≡ false → (y == x) ≡ false
other x y h = grind (arith, nat_tests)

-- each is below the first free one
pub below_room : (x : ℕ) (xs : List ℕ) → 1 ≤ tally x xs → x < room xs
below_room x [] h = absurd (omega (arith, h))
below_room x (y ∷ ys) h = at (nat_eq x y) refl h (below_room x ys)
  where
    at : (b : Bool) → nat_eq x y ≡ b → 1 ≤ (if b then 1 else 0) + tally x ys → (1 ≤ tally x ys → x < room ys) → x < max (suc y) (room ys)
    at true e h more = let is : x ≡ y = same x y e in omega (arith, is)
    at false e h more = let lt : x < room ys = more (omega (arith, h)) in omega (arith, lt)

-- one that isn't in the list has no place
pub not_placed : (n : ℕ) (ys : List ℕ) (x : ℕ) → tally x ys ≡ 0 → place_from n ys x ≡ None
not_placed n [] x none = refl
not_placed n (y ∷ ys) x none =
    (λ i. later_or (not_placed (n + 1) ys x (omega (arith, none)) i) (if differs (nat_eq x y) refl i then Some n else None))
  where
    differs : (b : Bool) → nat_eq x y ≡ b → (y == x) ≡ false
    differs false e = other x y e
    differs true e = absurd (let one : 1 ≤ (if nat_eq x y then 1 else 0) = tally_same x y (same x y e) in omega (arith, one, none))

is_same : (x : ℕ) → (x == x) ≡ true
is_same x = grind (arith, nat_tests)

-- the last one has the last place
pub last_placed : (n : ℕ) (xs : List ℕ) (y : ℕ) → place_from n (xs ++ y ∷ []) y ≡ Some (n + length xs)
last_placed n [] y = ap (λ (b : Bool). if b then Some n else None) (is_same y) ∙ ap (λ (k : ℕ). Some k) (omega arith)
last_placed n (x ∷ xs) y =
    ap (λ (o : Option ℕ). later_or o (if (x == y) then Some n else None)) (last_placed (n + 1) xs y) ∙ ap (λ (k : ℕ). Some k) (omega arith)
