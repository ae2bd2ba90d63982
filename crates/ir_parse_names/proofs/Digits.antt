-- Decimal numbers digit by digit.
use Rattle.std.proofs.Common.{◌≡◌, ℕ, ◌+◌, ◌-◌, ◌*◌, ◌≤◌, ◌<◌, [], ◌∷◌, List, length, drop, get_or, arith, refl, ap, add-one, drop-cons}
use Rattle.std.proofs.lemmas.List.{drop_all}
use Rattle.ir_parse_names.specs.Keys.{decimal_from}

pub grows : (n : ℕ) (ds : List ℕ) → n ≤ decimal_from n ds
grows n [] = omega arith
grows n (d ∷ ds) = omega (arith, grows (n * 10 + (d - 48)) ds)

pub step : (n : ℕ) (ds : List ℕ) (i : ℕ) → i < length ds → decimal_from n (drop i ds) ≡ decimal_from (n * 10 + (get_or ds i 0 - 48)) (drop (i + 1) ds)
step n ds i lt = rw (add-one, drop-cons ds i 0) refl

pub ended : (n : ℕ) (ds : List ℕ) (i : ℕ) → length ds ≤ i → decimal_from n (drop i ds) ≡ n
ended n ds i le = ap (decimal_from n) (drop_all i ds le)
