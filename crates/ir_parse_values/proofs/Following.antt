-- What follows a call that gives something.
use Rattle.std.proofs.Common.{◌≡◌, Result, Ok, ap}
use Rattle.ir_parse_names.specs.Resolving.{◌>>=◌}

pub follows : {A B E : Type 0} {r : Result A E} {x : A} (k : A → Result B E) → r ≡ Ok x → (r >>= k) ≡ k x
follows k e = ap (λ q. q >>= k) e
