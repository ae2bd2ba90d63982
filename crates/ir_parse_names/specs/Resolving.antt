-- What a call that may lack memory gives.
use Rattle.std.specs.Prelude.{◌≡◌, Result, Ok, Err, List, [], ◌∷◌}
use Rattle.ir_parse_names.specs.declared.fault.Fault.{Fault}
use Rattle.ir_tree.specs.declared.failure.Failure.{Failure}
use Rattle.ir_tree.specs.declared.failure.Failure.TheVariants as errors

-- what a call returned is this, unless memory ran out
abbrev pub ResolvesTo : {X Y : Type 0} → (X → Y) → Result X (Failure Fault) → Result Y Fault → Type 0
ResolvesTo view (Ok x) r = r ≡ Ok (view x)
ResolvesTo view (Err errors.NoMemory) r = Unit {0}
ResolvesTo view (Err (errors.Fault fault)) r = r ≡ Err fault

infixl 10 ◌>>=◌
abbrev pub ◌>>=◌ : {A B E : Type 0} → Result A E → (A → Result B E) → Result B E
(Ok x) >>= f = f x
(Err e) >>= f = Err e

abbrev pub each : {A B E : Type 0} → (A → Result B E) → List A → Result (List B) E
each f [] = Ok []
each f (x ∷ xs) = f x >>= λ y. each f xs >>= λ ys. Ok (y ∷ ys)
