-- The order of numbers tells equal ones.
use Rattle.std.proofs.Common.{◌≡◌, ℕ, Bool, true, false, ◌==◌, nat_lt, cond, refl, sym, arith}
use Rattle.std.specs.Ordering.{is_eq, nat_cmp}
use Rattle.std.specs.declared.cmp.Ordering.TheVariants.{Less, Equal, Greater}
use Rattle.std.proofs.lemmas.Bool.Decides.{nat_tests}

by_tests : (less same : Bool) → (less ≡ true → same ≡ false) → is_eq (cond less Less (cond same Equal Greater)) ≡ same
by_tests true true h = sym (h refl)
by_tests true false h = refl
by_tests false true h = refl
by_tests false false h = refl

pub less_differs : (x y : ℕ) → nat_lt x y ≡ true → (x == y) ≡ false
less_differs x y lt = grind (arith, nat_tests)

pub is_eq-nat_cmp : (x y : ℕ) → is_eq (nat_cmp x y) ≡ (x == y)
is_eq-nat_cmp x y = by_tests (nat_lt x y) (x == y) (less_differs x y)
