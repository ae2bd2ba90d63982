-- What holds of a result where there is one.
use Rattle.std.proofs.Common.{◌≡◌, refl, subst, List, [], ◌∷◌, Result, Ok, Err}
use Rattle.std.specs.List.{AllByRecursion as Each}
use Rattle.ir_parse_names.specs.Resolving.{◌>>=◌, each}

pub record Gives {A E : Type 0} (r : Result A E) (P : A → Type 0) : Type 0 where
  pub given : (x : A) → r ≡ Ok x → P x

pub gives : {A E : Type 0} (P : A → Type 0) (x : A) → P x → Gives {E = E} (Ok x) P
gives {A} {E} P x h = record { given = λ y e. let same : x ≡ y = cc in subst P same h }

pub fails : {A E : Type 0} (P : A → Type 0) (d : E) → Gives (Err d) P
fails P d = record { given = λ y e. absurd cc }

pub bind : {A B E : Type 0} (P : A → Type 0) (Q : B → Type 0) (r : Result A E) (f : A → Result B E) → Gives r P → ((x : A) → P x → Gives (f x) Q) → Gives (r >>= f) Q
bind P Q (Ok x) f h k = k x (h.given x refl)
bind P Q (Err d) f h k = fails Q d

-- what holds of what is made of each
pub bind_each : {A B E : Type 0} (P : A → Type 0) (Q : B → Type 0) (f : A → Result B E) → ((x : A) → P x → Gives (f x) Q) → (xs : List A) → Each P xs → Gives (each f xs) (Each Q)
bind_each {A} {B} {E} P Q f h [] all = gives (Each Q) [] tt
bind_each {A} {B} {E} P Q f h (x ∷ xs) all =
    bind Q (Each Q) (f x) (λ y. each f xs >>= λ ys. Ok (y ∷ ys)) (h x all.0) (λ y one.
    bind (Each Q) (Each Q) (each f xs) (λ ys. Ok (y ∷ ys)) (bind_each P Q f h xs all.1) (λ ys more. gives (Each Q) (y ∷ ys) (one, more)))

-- whatever there is
pub whatever : {A E : Type 0} (r : Result A E) → Gives r (λ x. Unit {0})
whatever r = record { given = λ x e. tt }
