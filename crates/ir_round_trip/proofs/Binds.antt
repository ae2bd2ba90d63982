-- Results that are known, one behind another.
use Rattle.std.proofs.Common.{◌≡◌, Result, Ok, List, [], ◌∷◌, refl, ap, ◌∙◌}
use Rattle.std.specs.List.{AllByRecursion as Each}
use Rattle.ir_parse_names.specs.Resolving.{◌>>=◌, each}
use Rattle.ir_round_trip.specs.PartsPrinted.{Paired}

pub bound : {A B E : Type 0} {r : Result A E} {x : A} {s : Result B E} (f : A → Result B E) → r ≡ Ok x → f x ≡ s → r >>= f ≡ s
bound f e g = ap (λ r. r >>= f) e ∙ g

-- each of these gives its own
pub each_of : {A B E : Type 0} (f : B → Result A E) (R : A → B → Type 0) (K : A → Type 0) → ((a : A) (b : B) → K a → R a b → f b ≡ Ok a) → (as' : List A) (bs : List B) → Each K as' → Paired R as' bs → each f bs ≡ Ok as'
each_of f R K one [] [] k p = refl
each_of f R K one [] (b ∷ bs) k p = absurd p
each_of f R K one (a ∷ as') [] k p = absurd p
each_of f R K one (a ∷ as') (b ∷ bs) k p = bound (λ y. each f bs >>= λ ys. Ok (y ∷ ys)) (one a b k.0 p.0) (bound (λ ys. Ok (a ∷ ys)) (each_of f R K one as' bs k.1 p.1) refl)
